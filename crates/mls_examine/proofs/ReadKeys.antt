-- Data that are one vector, as they are read.
use Rattle.std.proofs.Common.{◌≡◌, ℕ, List, [], ◌∷◌, length, false, Some, None, refl}
use Rattle.std.specs.Prelude.{nat_eq}
use Rattle.std.proofs.lemmas.Bool.{ne_eqb}
use Rattle.mls_wire.specs.Input.{Input, at}
use Rattle.mls_wire.specs.Parsing.{whole_at, vector_at}

module _ (body : List ℕ) where
  pub read_whole : (key : List ℕ) (j : Input) → vector_at (at 0 body) ≡ Some (key, j) → j.left ≡ [] → whole_at vector_at body ≡ Some key
  read_whole key j e none = rw (e, none) refl

  left_over : (xs : List ℕ) → (xs ≡ [] → ⊥) → nat_eq (length xs) 0 ≡ false
  left_over [] some = absurd (some refl)
  left_over (x ∷ xs) some = ne_eqb (length (x ∷ xs)) 0 (λ e. cc)

  pub read_more : (key : List ℕ) (j : Input) → vector_at (at 0 body) ≡ Some (key, j) → (j.left ≡ [] → ⊥) → whole_at vector_at body ≡ None
  read_more key j e some = rw (e, left_over j.left some) refl

  pub read_none : vector_at (at 0 body) ≡ None → whole_at vector_at body ≡ None
  read_none e = rw e refl
