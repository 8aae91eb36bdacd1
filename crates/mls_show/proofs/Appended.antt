-- Texts that are appended one after the other.
use Rattle.std.proofs.Common.{◌≡◌, ℕ, List, ◌++◌, ap, ◌∙◌, append_assoc}
use Rattle.std.specs.Prelude.{OnOk, Result}
use Rattle.std.proofs.lemmas.Result.{on_ok_weaker}

-- what was appended before
pub with_before : (out0 out1 out2 a b : List ℕ) → out1 ≡ out0 ++ a → out2 ≡ out1 ++ b → out2 ≡ out0 ++ (a ++ b)
with_before out0 out1 out2 a b first second = second ∙ ap (λ (t : List ℕ). t ++ b) first ∙ append_assoc out0 a b

-- the same of a call that may run out of memory
pub with_before_on_ok : {T E : Type 0} (r : Result T E) (out0 out1 out2 a b : List ℕ) → out1 ≡ out0 ++ a → OnOk r (out2 ≡ out1 ++ b) → OnOk r (out2 ≡ out0 ++ (a ++ b))
with_before_on_ok r out0 out1 out2 a b first second = on_ok_weaker r (with_before out0 out1 out2 a b first) second
