-- Encodings one after the other: lemmas. Internal: no public contract uses this.
use Rattle.std.proofs.Common.{◌≡◌, ℕ, ◌<◌, List, ◌++◌, length, Option, Some, None, refl, sym, ap, append_assoc, arith}
use Rattle.std.proofs.lemmas.List.{length-append}
use Rattle.mls_wire.specs.Encoding.{◌⊕◌}
use Rattle.mls_wire.specs.OptionBind.{some_is}

-- An encoding in two parts.
pub joined : (a b : Option (List ℕ)) (s : List ℕ) → a ⊕ b ≡ Some s → (x y : List ℕ) × (a ≡ Some x) × (b ≡ Some y) × (s ≡ x ++ y)
unfolding ◌⊕◌
joined None b s e = absurd cc
joined (Some x) None s e = absurd cc
joined (Some x) (Some y) s e = (x, y, refl, refl, sym (some_is (x ++ y) s e))

-- Two parts joined.
pub join : (a b : Option (List ℕ)) (x y : List ℕ) → a ≡ Some x → b ≡ Some y → a ⊕ b ≡ Some (x ++ y)
unfolding ◌⊕◌
join a b x y p q = rw (p, q) refl

-- The first part has no encoding.
pub no_left : (a b : Option (List ℕ)) → a ≡ None → a ⊕ b ≡ None
unfolding ◌⊕◌
no_left a b p = rw p refl

-- The second part has no encoding.
pub no_right : (a b : Option (List ℕ)) → b ≡ None → a ⊕ b ≡ None
unfolding ◌⊕◌
no_right None b p = refl
no_right (Some x) b p = rw p refl

-- Two parts have at least one byte if the first part has.
pub long_left : (a b : Option (List ℕ)) (front : List ℕ) → ((x : List ℕ) → a ≡ Some x → 0 < length x) → a ⊕ b ≡ Some front → 0 < length front
long_left a b front long e =
    let t = joined a b front e in
    omega (arith, long t.0 t.2, ap length t.4, length-append t.0 t.1)

-- Three parts, one after the other.
pub regrouped : (a b c : Option (List ℕ)) → (a ⊕ b) ⊕ c ≡ a ⊕ b ⊕ c
unfolding ◌⊕◌
regrouped None b c = refl
regrouped (Some x) None c = refl
regrouped (Some x) (Some y) None = refl
regrouped (Some x) (Some y) (Some z) = ap (λ (t : List ℕ). Some t) (append_assoc x y z)
