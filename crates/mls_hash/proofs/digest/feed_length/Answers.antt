use Rattle.std.proofs.Common.{ℕ, List, [], ◌∷◌, ◌<◌, Some, refl, sym, ap, ◌∙◌, arith}
use Rattle.mls_wire.specs.LengthsExact.{form_1, form_2, form_4}
use Rattle.mls_hash.proofs.digest.feed_length.Goals as goal

pub returns-then-length-lt64 : goal.returns-then-length-lt64
returns-then-length-lt64 c = λ H m h. (c.args.length ∷ [], form_1 c.args.length c.if-length-lt64.true, c.update.ensures H m h)

pub returns-then-length-lt16384 : goal.returns-then-length-lt16384
returns-then-length-lt16384 c =
    λ H m h. (c.to_be_bytes.result, form_2 c.args.length _ c.if-length-lt64.false c.if-length-lt16384.true refl ∙ ap (λ (x : List ℕ). Some x) (sym c.to_be_bytes.ensures), c.update-then-length-lt16384.ensures H m h)

pub returns-else-length-lt16384 : goal.returns-else-length-lt16384
returns-else-length-lt16384 c =
    let low : c.args.length < 1073741824 = omega (arith, c.requires) in
    λ H m h. (c.to_be_bytes-else-length-lt16384.result, form_4 c.args.length _ c.if-length-lt16384.false low refl ∙ ap (λ (x : List ℕ). Some x) (sym c.to_be_bytes-else-length-lt16384.ensures), c.update-else-length-lt16384.ensures H m h)
