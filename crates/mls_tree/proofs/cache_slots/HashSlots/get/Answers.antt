use Rattle.std.proofs.Common.{◌≡◌, true, false, Bool, None, length, Some, sym, ap, ◌∙◌, rules}
use Rattle.std.specs.Prelude.{slice_get}
use Rattle.std.proofs.lemmas.Bool.{ltb-false}
use Rattle.std.proofs.lemmas.Option.{slice_get-get_or, slice_get_past}
use Rattle.mls_tree.specs.HashCache.{hash_in}
use Rattle.mls_tree.specs.HashListsInternal.{EqualSlots}
use Rattle.mls_tree.proofs.HashRows.{hash_in-filled, hash_in-empty, hash_in-past}
use Rattle.mls_tree.proofs.cache_slots.HashSlots.get.Goals as goal

pub returns-in-Some-true : goal.returns-in-Some-true
returns-in-Some-true c =
    let i = c.self.inside in
    let look = c.in-Some-true.ensures.lookup in
    let yes : c.in-Some-true.field-0.now ≡ true = search rules in
    let is : slice_get i.filled.items c.args.slot ≡ Some true
    = ap (λ xs. slice_get xs c.args.slot) (sym c.deref.ensures.value) ∙ slice_get-get_or c.deref.result.now c.args.slot true look.3.0 ∙ ap (λ (b : Bool). Some b) (sym (look.3.1 true) ∙ yes) in
    c.get-in-Some-true.ensures ∙ sym (hash_in-filled i.filled.items i.hashes.hashes c.args.slot is) ∙ ap (λ (v : EqualSlots). hash_in (slice_get v.items c.args.slot)) c.self.view_is

pub returns-in-Some-false : goal.returns-in-Some-false
returns-in-Some-false c =
    let i = c.self.inside in
    let look = c.in-Some-false.ensures.lookup in
    let no : c.in-Some-false.field-0.now ≡ false = search rules in
    let is : slice_get i.filled.items c.args.slot ≡ Some false
    = ap (λ xs. slice_get xs c.args.slot) (sym c.deref.ensures.value) ∙ slice_get-get_or c.deref.result.now c.args.slot true look.3.0 ∙ ap (λ (b : Bool). Some b) (sym (look.3.1 true) ∙ no) in
    sym (hash_in-empty i.filled.items i.hashes.hashes c.args.slot is) ∙ ap (λ (v : EqualSlots). hash_in (slice_get v.items c.args.slot)) c.self.view_is

pub returns-in-None : goal.returns-in-None
returns-in-None c =
    let i = c.self.inside in
    let look = c.in-None.ensures.lookup in
    let is : slice_get i.filled.items c.args.slot ≡ None
    = ap (λ xs. slice_get xs c.args.slot) (sym c.deref.ensures.value) ∙ slice_get_past c.deref.result.now c.args.slot (ltb-false c.args.slot (length c.deref.result.now) (sym look.0)) in
    sym (hash_in-past i.filled.items i.hashes.hashes c.args.slot is) ∙ ap (λ (v : EqualSlots). hash_in (slice_get v.items c.args.slot)) c.self.view_is
