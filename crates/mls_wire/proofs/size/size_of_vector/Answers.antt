use Rattle.std.proofs.Common.{refl, arith}
use Rattle.mls_wire.specs.LengthsExact.{form_1, form_2, form_4}
use Rattle.mls_wire.specs.EncodedSizes.{size_short, size_long}
use Rattle.mls_wire.proofs.size.size_of_vector.Goals as goal

pub returns-then-body-lt64 : goal.returns-then-body-lt64
returns-then-body-lt64 c s e = size_short s c.args.body 1 _ e (omega arith) (form_1 _ (omega (arith, e))) refl (omega arith)

pub returns-then-body-lt16384 : goal.returns-then-body-lt16384
returns-then-body-lt16384 c s e = size_short s c.args.body 2 _ e (omega arith) (form_2 _ _ (omega (arith, e)) (omega (arith, e)) refl) refl (omega arith)

pub returns-then-body-le-MAX_BODY : goal.returns-then-body-le-MAX_BODY
returns-then-body-le-MAX_BODY c s e = size_short s c.args.body 4 _ e (omega arith) (form_4 _ _ (omega (arith, e)) (omega (arith, e)) refl) refl (omega arith)

pub returns-else-body-le-MAX_BODY : goal.returns-else-body-le-MAX_BODY
returns-else-body-le-MAX_BODY c s e = size_long s c.args.body e (omega arith)
