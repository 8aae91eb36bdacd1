-- Elements of lists of numbers.
use Rattle.std.proofs.Common.{◌≡◌, ℕ, ◌*◌, ◌<◌, ◌≤◌, length, get_or, Bool, true, false, List, [], ◌∷◌, refl, sym, ap, ◌∙◌, subst, arith, inl, inr, map, filter}
use Rattle.std.specs.Prelude.{◌⊎◌, ◌==◌, nat_lt, ◌&&◌}
use Rattle.std.specs.List.{Contains, list_any, list_all}
use Rattle.std.proofs.lemmas.Bool.{cases_lt, false≢true, eqb-true}
use Rattle.std.proofs.lemmas.List.Elements.{Contains-append_cases, Contains-append_left, Contains-append_right, Contains-push, Contains-push_cases}
use Rattle.std.proofs.lemmas.List.Recursion.{and_at}
use Rattle.std.proofs.lemmas.List.Folds.{list_any_at}
use Rattle.std.proofs.lemmas.Bool.Decides.{Decides-eqb}
use Rattle.std.proofs.lemmas.Map.Views.{Contains-from_any}
use Rattle.mls_tree.specs.Paths.{unmerged_node_indices}
use Rattle.mls_tree.proofs.Choices.{below, from}
use Rattle.mls_check.specs.ParentHashMarks.{IsLeafInList}

module _ {X : Type 0} where
  pub contains-nil : (x : X) → Contains [] x → ⊥
  contains-nil x c = let l = c.1 in omega arith

  pub contains-cons : (y : X) (ys : List X) (x : X) → Contains (y ∷ ys) x → (y ≡ x) ⊎ Contains ys x
  contains-cons y ys x c =
      elim (Contains-append_cases (y ∷ []) ys x c) [
        | inl a ↦ elim (Contains-push_cases [] y x a) [ inl n ↦ absurd (contains-nil x n) | inr e ↦ inl e ]
        | inr b ↦ inr b
      ]

  pub contains-head : (y : X) (ys : List X) → Contains (y ∷ ys) y
  contains-head y ys = Contains-append_left (y ∷ []) ys y (Contains-push [] y)

  pub contains-tail : (y : X) (ys : List X) (x : X) → Contains ys x → Contains (y ∷ ys) x
  contains-tail y ys x c = Contains-append_right (y ∷ []) ys x c

  pub all-each : (f : X → Bool) (xs : List X) (x : X) → list_all f xs ≡ true → Contains xs x → f x ≡ true
  all-each f xs x h c = ap f (sym c.2) ∙ and_at (list_all f) f refl (λ _ _. refl) xs c.0 x c.1 h

pub and-left : (a b : Bool) → (a && b) ≡ true → a ≡ true
and-left true b e = refl
and-left false b e = e

pub and-right : (a b : Bool) → (a && b) ≡ true → b ≡ true
and-right true b e = e
and-right false b e = absurd (false≢true e)

-- a list that the test finds a number in has it
pub contains-found : (xs : List ℕ) (i : ℕ) → list_any (λ x. x == i) xs ≡ true → Contains xs i
contains-found xs i h = Contains-from_any {eq = λ a b. b == a} (λ x y e. sym (eqb-true y x e)) i xs h

pub kept-below : (n x : ℕ) (xs : List ℕ) → x < n → unmerged_node_indices n (x ∷ xs) ≡ (2 * x) ∷ unmerged_node_indices n xs
kept-below n x xs l = ap (λ ys. map (λ i. 2 * i) ys) (below x n (x ∷ filter (λ i. nat_lt i n) xs) (filter (λ i. nat_lt i n) xs) l)

pub left_out : (n x : ℕ) (xs : List ℕ) → n ≤ x → unmerged_node_indices n (x ∷ xs) ≡ unmerged_node_indices n xs
left_out n x xs l = ap (λ ys. map (λ i. 2 * i) ys) (from x n (x ∷ filter (λ i. nat_lt i n) xs) (filter (λ i. nat_lt i n) xs) l)

-- the places of a parent's unmerged leaves are those of the numbers in its list
pub unmerged-in : (n : ℕ) (xs : List ℕ) (i : ℕ) → Contains xs i → i < n → Contains (unmerged_node_indices n xs) (2 * i)
unmerged-in n [] i c l = absurd (contains-nil i c)
unmerged-in n (x ∷ xs) i c l =
    elim (contains-cons x xs i c) [
      | inl e ↦
          (let at : Contains ((2 * x) ∷ unmerged_node_indices n xs) (2 * i) = subst (λ v. Contains ((2 * x) ∷ unmerged_node_indices n xs) (2 * v)) e (contains-head (2 * x) (unmerged_node_indices n xs)) in
          subst (λ ys. Contains ys (2 * i)) (sym (kept-below n x xs (omega arith))) at)
      | inr d ↦
          (let rest = unmerged-in n xs i d l in
          elim (cases_lt x n) [
            | inl b ↦ subst (λ ys. Contains ys (2 * i)) (sym (kept-below n x xs b)) (contains-tail (2 * x) (unmerged_node_indices n xs) (2 * i) rest)
            | inr g ↦ subst (λ ys. Contains ys (2 * i)) (sym (left_out n x xs g)) rest
          ])
    ]

-- the places of unmerged leaves are those of entries that are leaves of the whole tree
pub unmerged-from : (n : ℕ) (xs : List ℕ) (u : ℕ) → Contains (unmerged_node_indices n xs) u → (i : ℕ) × Contains xs i × (i < n) × (u ≡ 2 * i)
unmerged-from n [] u c = absurd (contains-nil u c)
unmerged-from n (x ∷ xs) u c =
    elim (cases_lt x n) [
      | inl b ↦
          elim (contains-cons (2 * x) (unmerged_node_indices n xs) u (subst (λ ys. Contains ys u) (kept-below n x xs b) c)) [
            | inl e ↦ (x, contains-head x xs, b, sym e)
            | inr d ↦ (let w = unmerged-from n xs u d in (w.0, contains-tail x xs w.0 w.1, w.2, w.3))
          ]
      | inr g ↦ (let w = unmerged-from n xs u (subst (λ ys. Contains ys u) (left_out n x xs g) c) in (w.0, contains-tail x xs w.0 w.1, w.2, w.3))
    ]

pub unmerged-listed : (n : ℕ) (xs : List ℕ) (u : ℕ) → Contains (unmerged_node_indices n xs) u → IsLeafInList xs u
unmerged-listed n xs u c = let w = unmerged-from n xs u c in (w.0, w.1, w.3)

pub found-at : (xs : List ℕ) (i k : ℕ) → k < length xs → get_or xs k i ≡ i → list_any (λ x. x == i) xs ≡ true
found-at xs i k l e = list_any_at (λ x. x == i) xs k i l ((Decides-eqb (get_or xs k i) i).1 e)
