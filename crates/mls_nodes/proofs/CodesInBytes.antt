-- The codes in bytes, one after the other.
use Rattle.std.proofs.Common.{◌≡◌, ◌∙◌, ℕ, List, [], ◌∷◌, length, Option, Some, None, refl, sym, ap}
use Rattle.std.specs.Prelude.{IsSome, unwrap_or}
use Rattle.std.specs.Int.{w16}
use Rattle.mls_wire.specs.Input.{Input}
use Rattle.mls_wire.specs.Encoding.{number}
use Rattle.mls_wire.specs.Parsing.{number_at, items_at}
use Rattle.mls_wire.specs.IntegersExact.{wide16, number_exact, number_long}
use Rattle.mls_wire.specs.EncodedItems.{items_of, stored_items}
use Rattle.mls_wire.specs.OptionBind.{some_is}
use Rattle.mls_wire.specs.StoredItems.{first_of, none_left_of, at_any_offset, stored_of}

whole : (o : Option (List ℕ)) → IsSome o → o ≡ Some (unwrap_or o [])
whole None h = absurd cc
whole (Some xs) h = refl

-- the codes in an input
abbrev codes_in : Input → Option (List ℕ)
codes_in i = items_at (number_at w16) (length i.left) i

some_left : (i : Input) (xs : List ℕ) → codes_in i ≡ Some xs → (xs ≡ [] → ⊥) → i.left ≡ [] → ⊥
some_left i xs e some none = some (sym (ap (λ (o : Option (List ℕ)). unwrap_or o []) e) ∙ none_left_of (number w16) (number_at w16) (number_exact w16 wide16) (number_long w16 wide16) i none)

-- an input whose codes are not none has a first one
first_code : (i : Input) (xs : List ℕ) → codes_in i ≡ Some xs → (xs ≡ [] → ⊥) → (x : ℕ) × (j : Input) × (number_at w16 i ≡ Some (x, j)) × (ys : List ℕ) × (codes_in j ≡ Some ys) × (xs ≡ x ∷ ys)
first_code i xs e some =
    let t = first_of (number w16) (number_at w16) (number_exact w16 wide16) (number_long w16 wide16) i (some_left i xs e some) (rw e refl) in
    (t.0, t.1, t.2, unwrap_or (codes_in t.1) [], whole (codes_in t.1) t.3, sym (ap (λ (o : Option (List ℕ)). unwrap_or o []) e) ∙ t.4)

pub always_first : (i : Input) (xs : List ℕ) → codes_in i ≡ Some xs → (xs ≡ [] → ⊥) → number_at w16 i ≡ None → ⊥
always_first i xs e some none = let t = first_code i xs e some in let bad = sym none ∙ t.2 in absurd cc

-- what is after the first code
pub taken : (i j : Input) (x : ℕ) (xs : List ℕ) → codes_in i ≡ Some xs → (xs ≡ [] → ⊥) → number_at w16 i ≡ Some (x, j)
    → IsSome (items_of (number_at w16) j.left) × (xs ≡ x ∷ stored_items (number_at w16) j.left)
taken i j x xs e some is =
    let t = first_code i xs e some in
    let same = some_is (x, j) (t.0, t.1) (sym is ∙ t.2) in
    let rest : codes_in j ≡ Some t.3 = ap (λ (p : ℕ × Input). codes_in p.1) same ∙ t.4 in
    let stored = at_any_offset (number w16) (number_at w16) (number_exact w16 wide16) (number_long w16 wide16) j t.3 rest in
    (rw stored refl, t.5 ∙ (λ k. (sym (ap (λ (p : ℕ × Input). p.0) same)) k ∷ (sym (stored_of (number_at w16) j.left t.3 stored)) k))
