use Rattle.std.proofs.Common.{◌∙◌, List, Option, ℕ, ap, arith}
use Rattle.std.specs.Prelude.{slice_set}
use Rattle.mls_index.specs.NumbersInternal.{optional_numbers}
use Rattle.mls_index.proofs.OptionalNumbers.{length-entries, optional_numbers-set}
use Rattle.mls_index.proofs.numbers.Numbers.set.Goals as goal

pub index_mut-requires : goal.index_mut-requires
index_mut-requires c =
    let i = c.self.inside in
    omega (arith, c.requires, length-entries i.are_some.items i.numbers.items c.args.self.now c.self.invariant c.self.view_is, c.self.invariant, i.numbers.ok.0)

pub index_mut-requires-2 : goal.index_mut-requires-2
index_mut-requires-2 c =
    let i = c.self.inside in
    omega (arith, c.requires, length-entries i.are_some.items i.numbers.items c.args.self.now c.self.invariant c.self.view_is, i.are_some.ok.0)

pub returns : goal.returns
returns c =
    let i = c.self.inside in
    (λ j. optional_numbers (slice_set i.are_some.items c.args.index (c.is_some.ensures j)) (slice_set i.numbers.items c.args.index (c.unwrap_or.ensures j)))
    ∙ optional_numbers-set i.are_some.items i.numbers.items c.args.index c.args.number c.self.invariant
    ∙ ap (λ (v : List (Option ℕ)). slice_set v c.args.index c.args.number) c.self.view_is
