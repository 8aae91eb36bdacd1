-- The one place of a list of places that isn't listed.
use Rattle.std.proofs.Common.{◌≡◌, ◌≢◌, ℕ, ◌+◌, ◌<◌, ◌≤◌, List, [], ◌∷◌, ◌++◌, Option, Some, None, MatchOption, sym, ap, ◌∙◌, subst, arith, inl, inr, length, take, drop, get_or, is_some, Bool, true, false, eqb}
use Rattle.std.specs.Prelude.{◌⊎◌}
use Rattle.std.specs.List.{Contains}
use Rattle.std.specs.Option.{option_eq}
use Rattle.std.proofs.lemmas.Bool.{cases_order, false≢true, eqb-true, eqb-false}
use Rattle.std.proofs.lemmas.Option.{none-some, same_Some}
use Rattle.std.proofs.lemmas.List.{take_more, take_all, take-append-drop}
use Rattle.std.proofs.lemmas.List.Elements.{Contains-append_left, Contains-push, Contains-push_cases, Contains-get_or}
use Rattle.mls_tree.specs.Tree.{Tree}
use Rattle.mls_tree.specs.Paths.{resolution_at}
use Rattle.mls_check.specs.ParentHashMarks.{IsLeafInList, IsOnlyUnlisted, IsChainEnd, IsChainPredecessor}

-- the places so far are all listed, but for the one that was found
abbrev pub LoneIn : List ℕ → List ℕ → Option ℕ → Type 0
LoneIn list node_indices o = MatchOption o ((u : ℕ) → Contains node_indices u → IsLeafInList list u) (λ p. IsOnlyUnlisted list node_indices p)

same_or_not : (a b : ℕ) → (a ≡ b) ⊎ (a ≢ b)
same_or_not a b = elim (cases_order a b) [ inl e ↦ inl e | inr (inl l) ↦ inr (λ e. omega arith) | inr (inr g) ↦ inr (λ e. omega arith) ]

-- there is no other lone place
pub lone_once : (list node_indices : List ℕ) (p q : ℕ) → IsOnlyUnlisted list node_indices p → Contains node_indices q → ¬ IsLeafInList list q → p ≡ q
lone_once list node_indices p q h c n =
    elim (same_or_not q p) [ inl e ↦ sym e | inr d ↦ absurd (n (h.others q c d)) ]

module _ (list xs : List ℕ) (i : ℕ) (l : i < length xs) where
  more : (P : List ℕ → Type 0) → P (take i xs ++ get_or xs i 0 ∷ []) → P (take (i + 1) xs)
  more P h = subst P (sym (take_more xs i 0 l)) h

  pub lone-listed : (o : Option ℕ) → LoneIn list (take i xs) o → IsLeafInList list (get_or xs i 0) → LoneIn list (take (i + 1) xs) o
  lone-listed None h k =
      more (λ ys. LoneIn list ys None)
      (λ u c. elim (Contains-push_cases (take i xs) (get_or xs i 0) u c) [ inl a ↦ h u a | inr e ↦ subst (λ v. IsLeafInList list v) e k ])
  lone-listed (Some p) h k =
      more (λ ys. LoneIn list ys (Some p)) (record {
        here = Contains-append_left (take i xs) (get_or xs i 0 ∷ []) p h.here;
        unlisted = h.unlisted;
        others = λ u c n. elim (Contains-push_cases (take i xs) (get_or xs i 0) u c) [ inl a ↦ h.others u a n | inr e ↦ subst (λ v. IsLeafInList list v) e k ];
      })

  pub lone-again : (o : Option ℕ) → LoneIn list (take i xs) o → o ≡ Some (get_or xs i 0) → LoneIn list (take (i + 1) xs) o
  lone-again o h e = subst (λ o. LoneIn list (take (i + 1) xs) o) (sym e) (again (subst (λ o. LoneIn list (take i xs) o) e h))
    where
      again : IsOnlyUnlisted list (take i xs) (get_or xs i 0) → IsOnlyUnlisted list (take (i + 1) xs) (get_or xs i 0)
      again h =
          more (λ ys. IsOnlyUnlisted list ys (get_or xs i 0)) (record {
            here = Contains-append_left (take i xs) (get_or xs i 0 ∷ []) (get_or xs i 0) h.here;
            unlisted = h.unlisted;
            others = λ u c n. elim (Contains-push_cases (take i xs) (get_or xs i 0) u c) [ inl a ↦ h.others u a n | inr e ↦ absurd (n (sym e)) ];
          })

  pub lone-first : LoneIn list (take i xs) None → ¬ IsLeafInList list (get_or xs i 0) → LoneIn list (take (i + 1) xs) (Some (get_or xs i 0))
  lone-first h k =
      more (λ ys. LoneIn list ys (Some (get_or xs i 0))) (record {
        here = Contains-push (take i xs) (get_or xs i 0);
        unlisted = k;
        others = λ u c n. elim (Contains-push_cases (take i xs) (get_or xs i 0) u c) [ inl a ↦ h u a | inr e ↦ absurd (n (sym e)) ];
      })

  pub lone-two : (o : Option ℕ) → is_some o ≡ true → LoneIn list (take i xs) o → ¬ IsLeafInList list (get_or xs i 0) → o ≢ Some (get_or xs i 0) → (q : ℕ) → ¬ IsOnlyUnlisted list xs q
  lone-two None e h k n q w = absurd (false≢true e)
  lone-two (Some p) e h k n q w =
      let c : Contains xs p = subst (λ ys. Contains ys p) (take-append-drop i xs) (Contains-append_left (take i xs) (drop i xs) p h.here) in
      let a = lone_once list xs q p w c h.unlisted in
      let b = lone_once list xs q (get_or xs i 0) w (Contains-get_or xs i 0 l) k in
      n (ap Some (sym (sym b ∙ a)))

pub lone-end : (list xs : List ℕ) (i : ℕ) (o : Option ℕ) → length xs ≤ i → LoneIn list (take i xs) o → MatchOption o ((p : ℕ) → ¬ IsOnlyUnlisted list xs p) (λ p. IsOnlyUnlisted list xs p)
lone-end list xs i o l h = go o (subst (λ ys. LoneIn list ys o) (take_all i xs l) h)
  where
    go : (o : Option ℕ) → LoneIn list xs o → MatchOption o ((p : ℕ) → ¬ IsOnlyUnlisted list xs p) (λ p. IsOnlyUnlisted list xs p)
    go None f = λ p w. w.unlisted (f p w.here)
    go (Some p) f = f

pub lone-none : (list ys : List ℕ) (o : Option ℕ) → is_some o ≡ false → LoneIn list ys o → LoneIn list ys None
lone-none list ys None e h = h
lone-none list ys (Some p) e h = absurd (false≢true (sym e))

-- ---- tests

pub not_from : {P : Type 0} (r : Bool) → (P → r ≡ true) → r ≡ false → ¬ P
not_from r f e p = false≢true (sym e ∙ f p)

pub same_option : (o : Option ℕ) (x : ℕ) → option_eq eqb o (Some x) ≡ true → o ≡ Some x
same_option None x e = absurd (false≢true e)
same_option (Some y) x e = ap Some (eqb-true y x e)

pub other_option : (o : Option ℕ) (x : ℕ) → option_eq eqb o (Some x) ≡ false → o ≢ Some x
other_option None x e = λ n. absurd (none-some x n)
other_option (Some y) x e = λ n. eqb-false y x e (same_Some y x n)

-- ---- the candidate of a half

module _ (t : Tree) (list : List ℕ) (child : ℕ) (marks : List Bool) (items now : List ℕ) (known : resolution_at t child ≡ Some items) (same : now ≡ items) where
  here : (p : ℕ) → IsChainPredecessor t list child marks p → IsOnlyUnlisted list now p
  here p k = subst (λ ps. IsOnlyUnlisted list ps p) (same_Some _ _ (sym k.resolved ∙ known) ∙ sym same) k.lone

  pub no_candidate : ((p : ℕ) → ¬ IsOnlyUnlisted list now p) → (p : ℕ) → ¬ IsChainPredecessor t list child marks p
  no_candidate n p k = n p (here p k)

  pub no_end : (q : ℕ) → IsOnlyUnlisted list now q → ¬ IsChainEnd marks q → (p : ℕ) → ¬ IsChainPredecessor t list child marks p
  no_end q h n p k =
      let w = here p k in
      n (subst (λ v. IsChainEnd marks v) (sym (lone_once list now q p h w.here w.unlisted)) k.ended)
