use Rattle.std.proofs.Common.{◌≡◌, ℕ, true, List, Option, Some, sym, ap, subst, ◌∙◌, rules}
use Rattle.std.specs.Prelude.{IfSome, slice_get}
use Rattle.std.proofs.lemmas.Option.{slice_get-get_or}
use Rattle.mls_hash.proofs.MarkedHashes.{read_option}
use Rattle.mls_hash.proofs.parent_original_hashes.OwnHashes.get.Goals as goal

pub returns-in-Some-true : goal.returns-in-Some-true
returns-in-Some-true c =
    let i = c.self.inside in
    let look = c.in-Some-true.ensures.lookup in
    let yes : c.in-Some-true.field-0.now ≡ true = search rules in
    let is : slice_get i.known.items c.args.index ≡ Some true =
    ap (λ xs. slice_get xs c.args.index) (sym c.deref.ensures.value) ∙ slice_get-get_or c.deref.result.now c.args.index true look.3.0 ∙ ap (λ b. Some b) (sym (look.3.1 true) ∙ yes) in
    subst (λ (v : List (Option (List ℕ))). IfSome c.get-in-Some-true.result (λ hash. slice_get v c.args.index ≡ Some (Some hash))) c.self.view_is
    (read_option i.known.items i.hashes.hashes c.args.index c.get-in-Some-true.result is c.get-in-Some-true.ensures)
