-- Node indices that are sorted, each left once.
use Rattle.std.proofs.Common.{◌≡◌, ℕ, Bool, true, false, get_or, List, [], refl, sym, ◌∙◌, subst, ap, eqb}
use Rattle.std.specs.Prelude.{◌==◌}
use Rattle.std.specs.List.{Contains, dedup, list_any}
use Rattle.std.specs.List.Retain.{DiffersFromLast, IsFiltered}
use Rattle.std.specs.List.Sorted.{IsSorted, IsPermutation, IsStrictlyIncreasing}
use Rattle.std.specs.Ordering.{nat_cmp}
use Rattle.std.proofs.lemmas.Bool.{eqb-true}
use Rattle.std.proofs.lemmas.Bool.Decides.{Decides-eqb}
use Rattle.std.proofs.lemmas.List.Filters.{dedup_is}
use Rattle.std.proofs.lemmas.List.Folds.{list_any_at}
use Rattle.std.proofs.lemmas.List.Kept.{Contains-dedup_nat}
use Rattle.std.proofs.lemmas.List.Sorted.{list_any-IsPermutation}
use Rattle.std.proofs.lemmas.Map.Keys.{IsStrictlyIncreasing-dedup}
use Rattle.std.proofs.lemmas.Map.Views.{Contains-from_any}
use Rattle.mls_tree.specs.ChangedNodes.{AgreeExceptAt}
use Rattle.mls_tree.specs.Tree.{Tree}
use Rattle.mls_tree.proofs.Choices.{false_no_true}

-- whether a node index is listed
abbrev is_in : List ℕ → ℕ → Bool
is_in ps p = list_any (λ q. q == p) ps

listed : (ps : List ℕ) (p : ℕ) → Contains ps p → is_in ps p ≡ true
listed ps p c = list_any_at (λ q. q == p) ps c.0 p c.1 ((Decides-eqb (get_or ps c.0 p) p).1 c.2)

found : (ps : List ℕ) (p : ℕ) → is_in ps p ≡ true → Contains ps p
found ps p h = Contains-from_any {eq = λ a b. b == a} (λ x y e. sym (eqb-true y x e)) p ps h

not_true : (b : Bool) → (b ≡ true → ⊥) → b ≡ false
not_true true h = absurd (h refl)
not_true false h = refl

module _ (all sorted kept : List ℕ) (moved : IsPermutation all sorted) (left : IsFiltered (DiffersFromLast eqb) [] sorted kept) where
  pub indices-rise : IsSorted nat_cmp sorted → IsStrictlyIncreasing kept
  indices-rise up = subst (λ ps. IsStrictlyIncreasing ps) (sym (dedup_is eqb sorted kept left)) (IsStrictlyIncreasing-dedup sorted up)

  not_listed : (p : ℕ) → is_in kept p ≡ false → is_in all p ≡ false
  not_listed p out =
      let none : is_in (dedup eqb sorted) p ≡ false = ap (λ ps. is_in ps p) (sym (dedup_is eqb sorted kept left)) ∙ out in
      not_true (is_in all p) (λ e. false_no_true (sym none ∙ listed (dedup eqb sorted) p (Contains-dedup_nat sorted p (found sorted p (sym (list_any-IsPermutation (λ q. q == p) all sorted moved) ∙ e)))))

  pub agree-except_kept : (old new : Tree) → AgreeExceptAt all old new → AgreeExceptAt kept old new
  agree-except_kept old new a p out = a p (not_listed p out)
