-- Reading the ciphertexts of a path node.
use Rattle.std.proofs.Common.{◌≡◌, ◌∙◌, ℕ, ◌<◌, Bool, true, false, List, [], ◌∷◌, length, Option, Some, None, refl, sym, ap, subst}
use Rattle.std.specs.Prelude.{◌&&◌, IsSome, unwrap_or}
use Rattle.std.specs.List.{list_all}
use Rattle.mls_wire.specs.Input.{Input}
use Rattle.mls_wire.specs.ListLoops.{shortens}
use Rattle.mls_wire.specs.OptionBind.{some_is}
use Rattle.mls_wire.specs.Parsing.{items_at, vector_at}
use Rattle.mls_wire.specs.StoredItems.{first_of, none_left_of}
use Rattle.mls_msgs.specs.Layout.{ciphertext}
use Rattle.mls_msgs.specs.Ciphertext.{ciphertext_at}
use Rattle.mls_msgs.specs.CommitExact.{ciphertext_exact, ciphertext_long}
use Rattle.mls_msgs.specs.declared.ciphertexts.Ciphertext.{Ciphertext}

-- the ciphertexts up to the end of an input
abbrev ciphertexts_at : Input → Option (List Ciphertext)
ciphertexts_at i = items_at ciphertext_at (length i.left) i

-- those that are left in an input decide whether the test holds of each of a list
pub record AreLeft (test : Ciphertext → Bool) (all : List Ciphertext) (i : Input) : Type 0 where
  pub are_some : IsSome (ciphertexts_at i)
  pub same : list_all test (unwrap_or (ciphertexts_at i) []) ≡ list_all test all

pub AreLeft-first : (test : Ciphertext → Bool) (all : List Ciphertext) (i : Input) → ciphertexts_at i ≡ Some all → AreLeft test all i
AreLeft-first test all i e = record { are_some = rw e refl; same = rw e refl }

no_ciphertext : (i : Input) → vector_at i ≡ None → ciphertext_at i ≡ None
unfolding ciphertext_at
no_ciphertext i e = rw e refl

half_ciphertext : (i j : Input) (kem : List ℕ) → vector_at i ≡ Some (kem, j) → vector_at j ≡ None → ciphertext_at i ≡ None
unfolding ciphertext_at
half_ciphertext i j kem e f = rw (e, f) refl

whole_ciphertext : (i j k : Input) (kem body : List ℕ) → vector_at i ≡ Some (kem, j) → vector_at j ≡ Some (body, k)
    → ciphertext_at i ≡ Some (record { kem_output = kem; ciphertext = body }, k)
unfolding ciphertext_at
whole_ciphertext i j k kem body e f = rw (e, f) refl

module _ (test : Ciphertext → Bool) (all : List Ciphertext) (i : Input) where
  pub AreLeft-last : i.left ≡ [] → AreLeft test all i → list_all test all ≡ true
  AreLeft-last none h = sym h.same ∙ ap (list_all test) (none_left_of ciphertext ciphertext_at ciphertext_exact ciphertext_long i none)

  pub never_none : (i.left ≡ [] → ⊥) → AreLeft test all i → vector_at i ≡ None → ⊥
  never_none some h e =
      let first = first_of ciphertext ciphertext_at ciphertext_exact ciphertext_long i some h.are_some in
      let bad = sym (no_ciphertext i e) ∙ first.2 in absurd cc

  pub never_half : (j : Input) (kem : List ℕ) → (i.left ≡ [] → ⊥) → AreLeft test all i → vector_at i ≡ Some (kem, j) → vector_at j ≡ None → ⊥
  never_half j kem some h e f =
      let first = first_of ciphertext ciphertext_at ciphertext_exact ciphertext_long i some h.are_some in
      let bad = sym (half_ciphertext i j kem e f) ∙ first.2 in absurd cc

  module _ (j k : Input) (kem body : List ℕ) (some : i.left ≡ [] → ⊥) (h : AreLeft test all i)
      (e : vector_at i ≡ Some (kem, j)) (f : vector_at j ≡ Some (body, k)) where
    pub ciphertext-shortens : length k.left < length i.left
    ciphertext-shortens = shortens ciphertext ciphertext_at ciphertext_exact ciphertext_long i (record { kem_output = kem; ciphertext = body }) k (whole_ciphertext i j k kem body e f)

    parts : IsSome (ciphertexts_at k) × (unwrap_or (ciphertexts_at i) [] ≡ record { kem_output = kem; ciphertext = body } ∷ unwrap_or (ciphertexts_at k) [])
    parts =
        let first = first_of ciphertext ciphertext_at ciphertext_exact ciphertext_long i some h.are_some in
        let same = some_is _ _ (sym first.2 ∙ whole_ciphertext i j k kem body e f) in
        subst (λ (p : Ciphertext × Input). IsSome (ciphertexts_at p.1) × (unwrap_or (ciphertexts_at i) [] ≡ p.0 ∷ unwrap_or (ciphertexts_at p.1) [])) same (first.3, first.4)

    pub AreLeft-more : test (record { kem_output = kem; ciphertext = body }) ≡ true → AreLeft test all k
    AreLeft-more is = record {
      are_some = parts.0;
      same = sym (ap (λ b. b && list_all test (unwrap_or (ciphertexts_at k) [])) is) ∙ sym (ap (list_all test) parts.1) ∙ h.same;
    }

    pub fails_here : test (record { kem_output = kem; ciphertext = body }) ≡ false → list_all test all ≡ false
    fails_here is =
        sym h.same ∙ ap (list_all test) parts.1 ∙ ap (λ b. b && list_all test (unwrap_or (ciphertexts_at k) [])) is
