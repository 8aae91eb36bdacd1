-- Answers of a test.
use Rattle.std.proofs.Common.{◌↔◌, true, false, refl}
use Rattle.std.specs.Prelude.{IsTrue}
use Rattle.std.proofs.lemmas.Bool.{false≢true}

-- a test that answers no, or yes
pub never : {P : Type 0} → (P → ⊥) → IsTrue false ↔ P
never none = (λ e. absurd (false≢true e), λ p. absurd (none p))

pub always : {P : Type 0} → P → IsTrue true ↔ P
always p = (λ _. p, λ _. refl)
