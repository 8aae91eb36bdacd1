-- Places of a list that are met one after the other.
use Rattle.std.proofs.Common.{◌≡◌, ◌∙◌, ℕ, List, [], ◌∷◌, true, false, inl, inr, sym, ap, subst}
use Rattle.std.proofs.lemmas.Bool.{cases_eq, false≢true}
use Rattle.mls_index.specs.IncrementalCheck.{contains_node_index}
use Rattle.mls_index.proofs.Entries.{listed-here, listed-other, listed-more}

-- something holds of the places that were met, and those that are left are places of the list
pub record AreMet (P : ℕ → Type 0) (all rest : List ℕ) : Type 0 where
  pub remaining : (p : ℕ) → contains_node_index all p ≡ true → contains_node_index rest p ≡ false → P p
  pub left : (p : ℕ) → contains_node_index rest p ≡ true → contains_node_index all p ≡ true

module _ (P : ℕ → Type 0) (all : List ℕ) where
  pub met-first : AreMet P all all
  met-first = record { remaining = λ p on off. absurd (false≢true (sym off ∙ on)); left = λ p on. on }

  pub met-more : (rest tail : List ℕ) (r : ℕ) → rest ≡ r ∷ tail → P r → AreMet P all rest → AreMet P all tail
  met-more rest tail r cut here h = record {
    remaining = λ p on off. elim (cases_eq p r) [
      | inl same ↦ subst P (sym same) here
      | inr other ↦ h.remaining p on (ap (λ ps. contains_node_index ps p) cut ∙ (listed-other r p tail other ∙ off))
    ];
    left = λ p on. h.left p (ap (λ ps. contains_node_index ps p) cut ∙ listed-more r p tail on);
  }

  pub met-all : (rest : List ℕ) → rest ≡ [] → AreMet P all rest → (p : ℕ) → contains_node_index all p ≡ true → P p
  met-all rest none h p on = h.remaining p on (ap (λ ps. contains_node_index ps p) none)

  -- the place that is met is one of the list
  pub met-listed : (rest tail : List ℕ) (r : ℕ) → rest ≡ r ∷ tail → AreMet P all rest → contains_node_index all r ≡ true
  met-listed rest tail r cut h = h.left r (ap (λ ps. contains_node_index ps r) cut ∙ listed-here r tail)
