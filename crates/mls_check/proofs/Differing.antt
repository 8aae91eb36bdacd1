-- Numbers that all differ, and keys that do because their beginnings do.
use Rattle.std.proofs.Common.{◌≡◌, ◌≢◌, ◌↔◌, ℕ, ◌+◌, ◌<◌, Bool, true, false, List, [], ◌∷◌, ◌++◌, length, Option, Some, None, inl, inr, refl, sym, ◌∙◌, arith, eqb, length-append}
use Rattle.std.specs.Prelude.{AllPairs, IsTrue}
use Rattle.std.specs.Bool.{OnTrue}
use Rattle.std.specs.List.{Contains}
use Rattle.std.specs.List.Sorted.{IsPermutation, IsNonDecreasing, IsStrictlyIncreasing}
use Rattle.std.proofs.Math.Seq.{get_or-append_seam}
use Rattle.std.proofs.lemmas.Bool.{cases_lt}
use Rattle.std.proofs.lemmas.Bool.Decides.{Decides-eqb, nat_tests}
use Rattle.std.proofs.lemmas.Option.{same_Some, none-some}
use Rattle.std.proofs.lemmas.List.{get_or_append_left}
use Rattle.std.proofs.lemmas.List.Elements.{Contains-append_left, Contains-push}
use Rattle.std.proofs.lemmas.List.Kept.{AllPairs-from_increasing}
use Rattle.std.proofs.lemmas.List.Sorted.{IsPermutation-sym}
use Rattle.std.proofs.lemmas.Map.Keys.{IsDistinct-IsPermutation, IsStrictlyIncreasing-from_distinct}
use Rattle.std.proofs.lemmas.Map.Made.{AllPairs-from_IsDistinct, IsDistinct-from_AllPairs}
use Rattle.mls_nodes.specs.KeyPrefix.{key_prefix}

-- ---- numbers

-- no number stands twice in a list
abbrev pub AllDiffer : List ℕ → Type 0
AllDiffer xs = AllPairs (λ x y. x ≢ y) xs

eqb-sym : (x y : ℕ) → eqb x y ≡ eqb y x
eqb-sym x y = grind (arith, nat_tests)

-- numbers that differ do so in any order
differ-moved : (xs ys : List ℕ) → IsPermutation xs ys → AllDiffer xs → AllDiffer ys
differ-moved xs ys moved differ =
    let before = IsDistinct-from_AllPairs Decides-eqb xs differ in
    let after = IsDistinct-IsPermutation eqb eqb-sym xs ys moved before in
    AllPairs-from_IsDistinct Decides-eqb ys after

differ-increasing : (xs : List ℕ) → IsStrictlyIncreasing xs → AllDiffer xs
differ-increasing xs increasing i j d before in' =
    λ same. let less = AllPairs-from_increasing xs increasing i j d before in' in omega arith

-- numbers differ exactly if they rise once they are sorted
pub differ-sorted : (xs sorted : List ℕ) → IsPermutation xs sorted → IsNonDecreasing sorted
    → IsStrictlyIncreasing sorted ↔ AllDiffer xs
differ-sorted xs sorted moved up = (
  λ increasing.
      let back = IsPermutation-sym xs sorted moved in
      differ-moved sorted xs back (differ-increasing sorted increasing),
  λ differ.
      let after = differ-moved xs sorted moved differ in
      IsStrictlyIncreasing-from_distinct sorted up (IsDistinct-from_AllPairs Decides-eqb sorted after),
)

-- ---- the walk over the keys at places, of which some have none

-- no two places below `low` have one key
abbrev pub AreApart : (ℕ → Option (List ℕ)) → ℕ → Type 0
AreApart encryption_key_at low =
    (p q : ℕ) (key : List ℕ) → p < q → q < low → encryption_key_at p ≡ Some key → encryption_key_at q ≡ Some key → ⊥

-- the numbers have the beginnings of the keys below `low`, once for each key
pub record Begun (encryption_key_at : ℕ → Option (List ℕ)) (low : ℕ) (prefixes : List ℕ) : Type 0 where
  pub met : (p : ℕ) (key : List ℕ) → p < low → encryption_key_at p ≡ Some key
      → Contains prefixes (key_prefix key)
  pub apart : AllDiffer prefixes → AreApart encryption_key_at low

pub Begun-none : (encryption_key_at : ℕ → Option (List ℕ)) → Begun encryption_key_at 0 []
Begun-none encryption_key_at = record {
  met = λ p key low at. absurd (omega arith);
  apart = λ h p q key below low here there. absurd (omega arith);
}

module _ (encryption_key_at : ℕ → Option (List ℕ)) (low : ℕ) (prefixes : List ℕ)
    (begun : Begun encryption_key_at low prefixes) where
  -- a place without a key
  pub Begun-blank : encryption_key_at low ≡ None → Begun encryption_key_at (low + 1) prefixes
  Begun-blank blank = record {
    met = λ p key below at.
        elim (cases_lt p low) [
          | inl before ↦ begun.met p key before at
          | inr here ↦
              let last : p ≡ low = omega arith in
              absurd (none-some key (sym blank ∙ (rw last at at)))
        ];
    apart = λ differ p q key below high here there.
        elim (cases_lt q low) [
          | inl before ↦ begun.apart differ p q key below before here there
          | inr at ↦
              let last : q ≡ low = omega arith in
              none-some key (sym blank ∙ (rw last at there))
        ];
  }

  -- a place with a key
  module _ (key : List ℕ) (at : encryption_key_at low ≡ Some key) where
    one_more : length (prefixes ++ key_prefix key ∷ []) ≡ length prefixes + 1
    one_more = length-append prefixes (key_prefix key ∷ [])

    kept : AllDiffer (prefixes ++ key_prefix key ∷ []) → AllDiffer prefixes
    kept differ i j d before in' same =
        let at_i = get_or_append_left prefixes (key_prefix key ∷ []) d i (omega arith) in
        let at_j = get_or_append_left prefixes (key_prefix key ∷ []) d j in' in
        differ i j d before (omega (arith, one_more)) (at_i ∙ same ∙ sym at_j)

    unmet : AllDiffer (prefixes ++ key_prefix key ∷ []) → Contains prefixes (key_prefix key) → ⊥
    unmet differ there =
        let at = get_or_append_left prefixes (key_prefix key ∷ []) (key_prefix key) there.0 there.1 in
        let end = get_or-append_seam prefixes (key_prefix key) [] (key_prefix key) in
        differ there.0 (length prefixes) (key_prefix key) there.1
        (omega (arith, one_more)) (at ∙ there.2 ∙ sym end)

    begun_more : Begun encryption_key_at (low + 1) (prefixes ++ key_prefix key ∷ [])
    begun_more = record {
      met = λ p other below there.
          elim (cases_lt p low) [
            | inl before ↦
                let old = begun.met p other before there in
                Contains-append_left prefixes (key_prefix key ∷ []) (key_prefix other) old
            | inr here ↦
                let last : p ≡ low = omega arith in
                let same : key ≡ other = same_Some key other (sym at ∙ (rw last at there)) in
                rw (← same) (Contains-push prefixes (key_prefix key))
          ];
      apart = λ differ p q other below high here there.
          elim (cases_lt q low) [
            | inl before ↦ begun.apart (kept differ) p q other below before here there
            | inr at_end ↦
                let last : q ≡ low = omega arith in
                let same : other ≡ key = same_Some other key (sym (rw last at there) ∙ at) in
                unmet differ (rw same at (begun.met p other (omega arith) here))
          ];
    }

    pub Begun-key : (number : ℕ) (more : List ℕ) → number ≡ key_prefix key
        → more ≡ prefixes ++ number ∷ [] → Begun encryption_key_at (low + 1) more
    Begun-key number more is pushed = rw (pushed, is) begun_more

-- what follows where the numbers differ
pub apart-answered : (encryption_key_at : ℕ → Option (List ℕ)) (low : ℕ) (prefixes : List ℕ)
    → Begun encryption_key_at low prefixes → (P : Type 0) → (AreApart encryption_key_at low → P)
    → (answer : Bool) → (IsTrue answer → AllDiffer prefixes) → OnTrue answer P
apart-answered encryption_key_at low prefixes begun P conclude true differ =
    conclude (begun.apart (differ refl))
apart-answered encryption_key_at low prefixes begun P conclude false differ = tt
