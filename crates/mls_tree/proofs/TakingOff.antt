-- Node indices of a resolution taken off a number, one after the other.
use Rattle.std.proofs.Common.{◌≡◌, ◌≢◌, ℕ, ◌+◌, ◌*◌, ◌-◌, ◌<◌, ◌≤◌, List, [], ◌∷◌, ◌++◌, length, drop, get_or, Option, Some, None, true, false, not, cond, nat_lt, sym, ap, ◌∙◌, inl, inr, arith}
use Rattle.std.specs.Prelude.{slice_get, map, ◌==◌}
use Rattle.std.specs.BTreeSet.{BTreeSet, contains}
use Rattle.std.specs.List.{filter}
use Rattle.std.specs.Option.{SomeIff}
use Rattle.std.specs.Ordering.{nat_cmp}
use Rattle.std.proofs.lemmas.Bool.{cases_lt}
use Rattle.std.proofs.lemmas.Bool.Decides.{nat_tests}
use Rattle.std.proofs.lemmas.List.{length-append, at_drop_more}
use Rattle.std.proofs.lemmas.List.Elements.{filter-append}
use Rattle.std.proofs.lemmas.Option.{none-some, same_Some}
use Rattle.mls_nodes.specs.declared.parent.ParentNode.{ParentNode}
use Rattle.mls_nodes.specs.declared.node.Node.{Node}
use Rattle.mls_tree.specs.TreeInternal.{leaves_at}
use Rattle.mls_tree.specs.NodeArray.{parent_part, tree_in}
use Rattle.mls_tree.specs.Paths.{resolution, unmerged_node_indices, count_not_in}
use Rattle.mls_tree.specs.Subtraction.{taken_off}
use Rattle.mls_tree.proofs.Choices.{below, from, is_less, not_less}
use Rattle.mls_tree.proofs.Walking.{resolution-blank, resolution-set}

-- ---- what is left of a number

pub taken_off-rest : (left n : ℕ) → n ≤ left → taken_off left n ≡ Some (left - n)
taken_off-rest left n h = from left n None (Some (left - n)) h

pub taken_off-past : (left n : ℕ) → left < n → taken_off left n ≡ None
taken_off-past left n h = below left n None (Some (left - n)) h

pub taken_off-none : (left : ℕ) → Some left ≡ taken_off left 0
taken_off-none left = sym (taken_off-rest left 0 (omega arith) ∙ ap (λ n. Some n) (let e : left - 0 ≡ left = omega arith in e))

-- one after the other
pub taken_off-more : (left a b rest : ℕ) → Some rest ≡ taken_off left a → taken_off left (a + b) ≡ taken_off rest b
taken_off-more left a b rest h =
    elim (cases_lt left a) [
      | inl lt ↦ absurd (none-some rest (sym (h ∙ taken_off-past left a lt)))
      | inr ge ↦
          (let e : rest ≡ left - a = same_Some rest (left - a) (h ∙ taken_off-rest left a ge) in
          elim (cases_lt left (a + b)) [
            | inl lt ↦ taken_off-past left (a + b) lt ∙ sym (taken_off-past rest b (omega arith))
            | inr ge2 ↦
                taken_off-rest left (a + b) ge2 ∙ ap (λ n. Some n) (let f : left - (a + b) ≡ rest - b = omega arith in f)
                ∙ sym (taken_off-rest rest b (omega arith))
          ])
    ]

pub taken_off-stopped : (left a b : ℕ) → None ≡ taken_off left a → None ≡ taken_off left (a + b)
taken_off-stopped left a b h =
    elim (cases_lt left a) [
      | inl lt ↦ sym (taken_off-past left (a + b) (omega arith))
      | inr ge ↦ absurd (none-some (left - a) (h ∙ taken_off-rest left a ge))
    ]

-- whether all of it is taken off, and no more
pub taken_off-all : (left n rest : ℕ) → Some rest ≡ taken_off left n → (rest == 0) ≡ (n == left)
taken_off-all left n rest h =
    elim (cases_lt left n) [
      | inl lt ↦ absurd (none-some rest (sym (h ∙ taken_off-past left n lt)))
      | inr ge ↦
          (let e : rest ≡ left - n = same_Some rest (left - n) (h ∙ taken_off-rest left n ge) in
          elim (cases_lt n left) [
            | inl less ↦ grind (arith, nat_tests)
            | inr same ↦ grind (arith, nat_tests)
          ])
    ]

pub taken_off-too_few : (left n : ℕ) → None ≡ taken_off left n → false ≡ (n == left)
taken_off-too_few left n h =
    elim (cases_lt left n) [
      | inl lt ↦ grind (arith, nat_tests)
      | inr ge ↦ absurd (none-some (left - n) (h ∙ taken_off-rest left n ge))
    ]

pub taken_off-one : (left : ℕ) (r : Option ℕ) → SomeIff r (1 ≤ left) (left - 1) → r ≡ taken_off left 1
taken_off-one left None h = elim (cases_lt left 1) [ inl lt ↦ sym (taken_off-past left 1 lt) | inr ge ↦ absurd (h ge) ]
taken_off-one left (Some n) h = ap (λ v. Some v) h.1 ∙ sym (taken_off-rest left 1 h.0)

-- ---- how many node indices are not left out

module _ (s : BTreeSet ℕ) where
  pub count_not_in-append : (xs ys : List ℕ) → count_not_in s (xs ++ ys) ≡ count_not_in s xs + count_not_in s ys
  count_not_in-append xs ys =
      let p = λ (p : ℕ). not (contains nat_cmp s p) in
      ap length (filter-append p xs ys) ∙ length-append (filter p xs) (filter p ys)

  pub count_not_in-out : (p : ℕ) → contains nat_cmp s p ≡ true → count_not_in s (p ∷ []) ≡ 0
  count_not_in-out p h = ap (λ b. length (cond (not b) (p ∷ []) [])) h

  pub count_not_in-in : (p : ℕ) → contains nat_cmp s p ≡ false → count_not_in s (p ∷ []) ≡ 1
  count_not_in-in p h = ap (λ b. length (cond (not b) (p ∷ []) [])) h

  -- a node index, and then others
  pub taken-more : (left rest x : ℕ) (xs : List ℕ) → Some rest ≡ taken_off left (count_not_in s (x ∷ [])) → taken_off left (count_not_in s (x ∷ xs)) ≡ taken_off rest (count_not_in s xs)
  taken-more left rest x xs h =
      ap (taken_off left) (count_not_in-append (x ∷ []) xs) ∙ taken_off-more left (count_not_in s (x ∷ [])) (count_not_in s xs) rest h

  pub taken-stopped : (left x : ℕ) (xs : List ℕ) → None ≡ taken_off left (count_not_in s (x ∷ [])) → None ≡ taken_off left (count_not_in s (x ∷ xs))
  taken-stopped left x xs h =
      taken_off-stopped left (count_not_in s (x ∷ [])) (count_not_in s xs) h ∙ ap (taken_off left) (sym (count_not_in-append (x ∷ []) xs))

  -- the unmerged leaves from the k-th on: one that the tree has, and one that it doesn't have
  module _ (leaves : ℕ) (xs : List ℕ) (k x : ℕ) (inside : k < length xs) (at : x ≡ get_or xs k 0) where
    unmerged-next : unmerged_node_indices leaves (drop k xs) ≡ map (λ i. 2 * i) (cond (nat_lt x leaves) (x ∷ filter (λ i. nat_lt i leaves) (drop (k + 1) xs)) (filter (λ i. nat_lt i leaves) (drop (k + 1) xs)))
    unmerged-next = at_drop_more (unmerged_node_indices leaves) xs k 0 inside ∙ ap (λ y. unmerged_node_indices leaves (y ∷ drop (k + 1) xs)) (sym at)

    pub unmerged-there : x < leaves → unmerged_node_indices leaves (drop k xs) ≡ (2 * x) ∷ unmerged_node_indices leaves (drop (k + 1) xs)
    unmerged-there lt =
        unmerged-next ∙ ap (λ b. map (λ i. 2 * i) (cond b (x ∷ filter (λ i. nat_lt i leaves) (drop (k + 1) xs)) (filter (λ i. nat_lt i leaves) (drop (k + 1) xs)))) (is_less x leaves lt)

    pub unmerged-not_there : leaves ≤ x → unmerged_node_indices leaves (drop k xs) ≡ unmerged_node_indices leaves (drop (k + 1) xs)
    unmerged-not_there ge =
        unmerged-next ∙ ap (λ b. map (λ i. 2 * i) (cond b (x ∷ filter (λ i. nat_lt i leaves) (drop (k + 1) xs)) (filter (λ i. nat_lt i leaves) (drop (k + 1) xs)))) (not_less x leaves ge)

-- ---- a step of the walk over the subtree of height `level` whose first leaf is numbered `first`

module _ (xs : List (Option Node)) (first half level : ℕ) (deep : level ≢ 0) (e : half ≡ leaves_at (level - 1)) (leaves : ℕ) (s : BTreeSet ℕ) (left : ℕ) where
  pub taken-blank : parent_part (slice_get xs (2 * (first + half) - 1)) ≡ None → (rest : ℕ) (r : Option ℕ)
      → Some rest ≡ taken_off left (count_not_in s (resolution leaves first (tree_in xs (level - 1) first)))
      → r ≡ taken_off rest (count_not_in s (resolution leaves (first + half) (tree_in xs (level - 1) (first + half))))
      → r ≡ taken_off left (count_not_in s (resolution leaves first (tree_in xs level first)))
  taken-blank none rest r l f =
      f ∙ sym (taken_off-more left _ (count_not_in s (resolution leaves (first + half) (tree_in xs (level - 1) (first + half)))) rest l)
      ∙ ap (taken_off left) (sym (ap (count_not_in s) (resolution-blank xs first half level deep e leaves none) ∙ count_not_in-append s _ _))

  pub taken-blank_stopped : parent_part (slice_get xs (2 * (first + half) - 1)) ≡ None
      → None ≡ taken_off left (count_not_in s (resolution leaves first (tree_in xs (level - 1) first)))
      → None ≡ taken_off left (count_not_in s (resolution leaves first (tree_in xs level first)))
  taken-blank_stopped none l =
      taken_off-stopped left _ (count_not_in s (resolution leaves (first + half) (tree_in xs (level - 1) (first + half)))) l
      ∙ ap (taken_off left) (sym (ap (count_not_in s) (resolution-blank xs first half level deep e leaves none) ∙ count_not_in-append s _ _))

  pub taken-set : (p : ParentNode) → parent_part (slice_get xs (2 * (first + half) - 1)) ≡ Some p → (ys : List ℕ) → ys ≡ p.unmerged → (rest : ℕ) (r : Option ℕ)
      → Some rest ≡ taken_off left (count_not_in s ((2 * (first + half) - 1) ∷ []))
      → r ≡ taken_off rest (count_not_in s (unmerged_node_indices leaves ys))
      → r ≡ taken_off left (count_not_in s (resolution leaves first (tree_in xs level first)))
  taken-set p some ys y rest r own f =
      f ∙ ap (λ v. taken_off rest (count_not_in s (unmerged_node_indices leaves v))) y
      ∙ sym (ap (λ v. taken_off left (count_not_in s v)) (resolution-set xs first half level deep e leaves p some)
      ∙ taken-more s left rest (2 * (first + half) - 1) (unmerged_node_indices leaves p.unmerged) own)

  pub taken-set_stopped : (p : ParentNode) → parent_part (slice_get xs (2 * (first + half) - 1)) ≡ Some p
      → None ≡ taken_off left (count_not_in s ((2 * (first + half) - 1) ∷ []))
      → None ≡ taken_off left (count_not_in s (resolution leaves first (tree_in xs level first)))
  taken-set_stopped p some own =
      taken-stopped s left (2 * (first + half) - 1) (unmerged_node_indices leaves p.unmerged) own
      ∙ ap (λ v. taken_off left (count_not_in s v)) (sym (resolution-set xs first half level deep e leaves p some))

-- nothing is taken off for a subtree with an empty resolution
pub taken-empty : (s : BTreeSet ℕ) (left : ℕ) (ps : List ℕ) → ps ≡ [] → Some left ≡ taken_off left (count_not_in s ps)
taken-empty s left ps h = taken_off-none left ∙ ap (λ v. taken_off left (count_not_in s v)) (sym h)
