use Rattle.std.proofs.Common.{ℕ, List, Some, refl, sym, ap, ◌∙◌, arith}
use Rattle.mls_wire.specs.LengthsExact.{form_1, form_2, form_4}
use Rattle.mls_wire.proofs.encoded_length.EncodedLength.of.Goals.{then-length-lt64, else-length-lt64+then-length-lt16384, else-length-lt64+else-length-lt16384}
use Rattle.mls_wire.proofs.encoded_length.EncodedLength.of.Goals as goal

pub returns : goal.returns
returns c =
    elim c.if-length-lt64.branch [
      | then-length-lt64 w ↦ form_1 c.args.length w.if-length-lt64.true ∙ ap (λ (x : List ℕ). Some x) (sym (w.bytes-is ∙ w.of-bytes.ensures))
      | else-length-lt64+then-length-lt16384 w ↦
          form_2 c.args.length _ w.if-length-lt64.false w.if-length-lt16384.true refl ∙ ap (λ (x : List ℕ). Some x) (sym (w.bytes-is ∙ w.of.ensures ∙ w.to_be_bytes.ensures))
      | else-length-lt64+else-length-lt16384 w ↦
          form_4 c.args.length _ w.if-length-lt16384.false (omega (arith, c.requires)) refl
          ∙ ap (λ (x : List ℕ). Some x) (sym (w.bytes-is ∙ w.of-else-length-lt16384.ensures ∙ w.to_be_bytes-else-length-lt16384.ensures))
    ]
