-- Reading an optional value, and the byte before it, is exact. Internal: no public contract uses this.
use Rattle.std.proofs.Common.{◌≡◌, ◌≢◌, ℕ, Bool, true, false, List, [], ◌∷◌, length, Option, Some, None, refl, sym, ap, ◌∙◌, arith}
use Rattle.std.specs.Int.{w8}
use Rattle.mls_wire.specs.Input.{Input}
use Rattle.mls_wire.specs.Encoding.{◌⊕◌, number, flag, optional}
use Rattle.mls_wire.specs.Parsing.{number_at}
use Rattle.mls_wire.specs.ParsingInternal.{flag_at, optional_at}
use Rattle.mls_wire.specs.OptionBind.{some_is}
use Rattle.mls_wire.specs.EncodingConcat.{long_left}
use Rattle.mls_wire.specs.ExactParsers.{Any, IsExact, IsLong, field_then, made_of, chosen, never, known, encoded_as, tag_is}
use Rattle.mls_wire.specs.IntegersExact.{wide8, number_exact}

-- The byte for absent or present.
abbrev bit : Bool → ℕ
bit false = 0
bit true = 1

flag_encoded : (b : Bool) → number w8 (bit b) ⊕ Some [] ≡ flag b
unfolding number flag ◌⊕◌
flag_encoded false = refl
flag_encoded true = refl

is_false : (b : Bool) → Unit {0} × (bit b ≡ 0) → false ≡ b
is_false false p = refl
is_false true p = absurd (omega arith)

is_true : (b : Bool) → Unit {0} × (bit b ≡ 1) → true ≡ b
is_true false p = absurd (omega arith)
is_true true p = refl

no_flag : (n : ℕ) → n ≢ 0 → n ≢ 1 → (b : Bool) → Unit {0} × (bit b ≡ n) → ⊥
no_flag n x y false p = x (sym p.1)
no_flag n x y true p = y (sym p.1)

-- Reading this byte is exact.
pub flag_exact : IsExact flag flag_at
unfolding flag_at
flag_exact = encoded_as Any flag _ flag_at flag_encoded
    (field_then Any bit (number w8) (λ b. Some []) (number_at w8) _ (number_exact w8 wide8)
    (λ n. tag_is bit _ _ _ n 0 (known _ _ false (tt, refl) refl is_false)
    (λ x. tag_is bit _ _ _ n 1 (known _ _ true (tt, refl) refl is_true)
    (λ y. never _ _ (no_flag n x y)))))

-- Whether there is a value.
abbrev is_there : {A : Type 0} → Option A → Bool
is_there None = false
is_there (Some x) = true

some_there : {A : Type 0} (b : Bool) → b ≡ true → (o : Option A) → Unit {0} × (is_there o ≡ b) → (x : A) × (◌≡◌ {A = Option A} (Some x) o)
some_there b e None p = let bad : false ≡ true = p.1 ∙ e in absurd cc
some_there b e (Some x) p = (x, refl)

none_there : {A : Type 0} (b : Bool) → b ≡ false → (o : Option A) → Unit {0} × (is_there o ≡ b) → ◌≡◌ {A = Option A} None o
none_there b e None p = refl
none_there b e (Some x) p = let bad : true ≡ false = p.1 ∙ e in absurd cc

module _ {A : Type 0} (s : A → Option (List ℕ)) (f : Input → Option (A × Input)) where
  -- The encoding of the value alone, if there is one.
  abbrev there_encoded : Option A → Option (List ℕ)
  there_encoded None = Some []
  there_encoded (Some x) = s x

  optional_encoded : (o : Option A) → flag (is_there o) ⊕ there_encoded o ≡ optional s o
  unfolding flag optional ◌⊕◌
  optional_encoded None = refl
  optional_encoded (Some x) = refl

  pub optional_exact : IsExact s f → IsExact (optional s) (optional_at f)
  unfolding optional_at
  optional_exact exact = encoded_as Any (optional s) _ (optional_at f) optional_encoded
      (field_then Any is_there flag there_encoded flag_at _ flag_exact
      (λ b. chosen _ _ _ _ b
      (λ e. made_of _ Some s _ f exact (λ x. (tt, sym e)) (λ x. refl) (some_there b e))
      (λ e. known _ _ None (tt, sym e) refl (none_there b e))))

-- An optional value has at least one byte.
pub optional_long : {A : Type 0} (s : A → Option (List ℕ)) → IsLong (optional s)
unfolding optional
optional_long s None front h = omega (arith, ap length (some_is _ _ h))
optional_long s (Some x) front h = long_left (Some (1 ∷ [])) (s x) front (λ t e. omega (arith, ap length (some_is _ _ e))) h
