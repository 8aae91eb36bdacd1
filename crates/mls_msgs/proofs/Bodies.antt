-- A body that is all of the bytes.
use Rattle.std.proofs.Common.{◌≡◌, ◌∙◌, ℕ, ◌+◌, List, [], ◌++◌, length, Option, Some, None, sym, ap}
use Rattle.std.proofs.lemmas.List.{append-nil}
use Rattle.mls_wire.specs.Input.{Input, at}
use Rattle.mls_wire.specs.ExactParsers.{IsExact}
use Rattle.mls_wire.specs.OptionBind.{some_is}

module _ {A : Type 0} (s : A → Option (List ℕ)) (f : Input → Option (A × Input)) (exact : IsExact s f) (bytes : List ℕ) where
  again : (x : A) → s x ≡ Some bytes → f (at 0 bytes) ≡ Some (x, at (0 + length bytes) [])
  again x e = ap (λ (r : List ℕ). f (at 0 r)) (sym (append-nil bytes)) ∙ exact.again x bytes [] 0 tt e

  -- a value that is read up to the end is encoded so
  pub all_read : (x : A) (j : Input) → f (at 0 bytes) ≡ Some (x, j) → j.left ≡ [] → s x ≡ Some bytes
  all_read x j e none =
      let t = (exact.takes (at 0 bytes) x j e).1 in
      let all : bytes ≡ t.0 = t.2 ∙ ap (λ (r : List ℕ). t.0 ++ r) none ∙ append-nil t.0 in
      t.1 ∙ ap (λ (r : List ℕ). Some r) (sym all)

  -- nothing is encoded so if nothing can be read
  pub none_read : f (at 0 bytes) ≡ None → (x : A) → s x ≡ Some bytes → ⊥
  none_read none x e = let bad = sym none ∙ again x e in absurd cc

  -- nothing is encoded so if bytes are left
  pub more_left : (y : A) (j : Input) → f (at 0 bytes) ≡ Some (y, j) → (j.left ≡ [] → ⊥) → (x : A) → s x ≡ Some bytes → ⊥
  more_left y j e some x p = some (ap (λ (z : A × Input). z.1.left) (some_is (y, j) (x, at (0 + length bytes) []) (sym e ∙ again x p)))
