use Rattle.std.proofs.Common.{refl, subst, sym, [], IsSome}
use Rattle.std.specs.Int.{w16}
use Rattle.mls_wire.specs.Encoding.{length_form, items, list, number, sized, vector, ◌⊕◌}
use Rattle.mls_wire.proofs.codes.Codes.empty.Goals as goal

-- The empty list has an encoding.
empty_fits : IsSome (list (number w16) [])
unfolding list items sized vector length_form ◌⊕◌
empty_fits = refl

pub invariant_of-result : goal.invariant_of-result
invariant_of-result c = subst (λ codes. IsSome (list (number w16) codes)) (sym c.new.ensures) empty_fits
