use Rattle.std.proofs.Common.{◌≡◌, ◌<◌, ◌∙◌, Bool, true, false, List, Option, ℕ, None, length, get_or, sym, ap, subst, arith}
use Rattle.std.specs.Prelude.{slice_get, unwrap_or}
use Rattle.mls_index.proofs.OptionalNumbers.{length-entries, optional_numbers-some, optional_numbers-none}
use Rattle.mls_index.proofs.numbers.Numbers.get.Goals as goal

pub index-requires : goal.index-requires
index-requires c =
    let i = c.self.inside in
    omega (arith, c.requires, length-entries i.are_some.items i.numbers.items c.args.self.now c.self.invariant c.self.view_is, i.are_some.ok.0)

pub index-requires-then-index : goal.index-requires-then-index
index-requires-then-index c =
    let i = c.self.inside in
    omega (arith, c.requires, length-entries i.are_some.items i.numbers.items c.args.self.now c.self.invariant c.self.view_is, c.self.invariant, i.numbers.ok.0)

pub returns-then-index : goal.returns-then-index
returns-then-index c =
    let i = c.self.inside in
    let low : c.args.index < length i.are_some.items
    = omega (arith, c.requires, length-entries i.are_some.items i.numbers.items c.args.self.now c.self.invariant c.self.view_is) in
    let marked : true ≡ get_or i.are_some.items c.args.index true = subst (λ (b : Bool). b ≡ get_or i.are_some.items c.args.index b) c.if-index.true c.index.ensures in
    sym (optional_numbers-some i.are_some.items i.numbers.items c.args.index c.index-then-index.result.now c.self.invariant low marked c.index-then-index.ensures)
    ∙ ap (λ (v : List (Option ℕ)). unwrap_or (slice_get v c.args.index) None) c.self.view_is

pub returns-else-index : goal.returns-else-index
returns-else-index c =
    let i = c.self.inside in
    let unmarked : false ≡ get_or i.are_some.items c.args.index false = subst (λ (b : Bool). b ≡ get_or i.are_some.items c.args.index b) c.if-index.false c.index.ensures in
    sym (optional_numbers-none i.are_some.items i.numbers.items c.args.index unmarked) ∙ ap (λ (v : List (Option ℕ)). unwrap_or (slice_get v c.args.index) None) c.self.view_is
