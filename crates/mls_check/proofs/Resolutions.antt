-- In a tree whose unmerged lists are sorted, and have leaves under their parents alone, the places of leaves rise along each resolution.
use Rattle.std.proofs.Common.{◌≡◌, ℕ, ◌+◌, ◌*◌, ◌-◌, ◌%◌, ◌<◌, ◌≤◌, List, [], ◌∷◌, ◌++◌, Option, Some, None, refl, sym, ◌∙◌, subst, arith, inl, inr}
use Rattle.std.specs.Prelude.{All, option_map}
use Rattle.std.specs.List.{Contains}
use Rattle.std.specs.List.Sorted.{IsStrictlyIncreasing}
use Rattle.std.proofs.lemmas.Bool.{cases_lt}
use Rattle.std.proofs.lemmas.Option.{none-some, same_Some}
use Rattle.std.proofs.lemmas.List.Elements.{All-contains, Contains-append_cases}
use Rattle.mls_nodes.specs.declared.parent.ParentNode.{ParentNode}
use Rattle.mls_nodes.specs.NodeModel.{parent_node}
use Rattle.mls_tree.specs.Tree.{Tree, leaf, branch, leaf_count, Subtree, subtree_at, root_node_index, entry_of}
use Rattle.mls_tree.specs.Paths.{resolution, resolution_at, unmerged_node_indices}
use Rattle.mls_tree.proofs.Trees.{leaf_count-positive, subtree_at-stands, subtree_at-root, subtree_at-nested, subtree_at-in_left, subtree_at-in_right, root_node_index-above, root_node_index-below}
use Rattle.mls_hash.specs.SubtreeHashes.{IsLeafOf}
use Rattle.mls_hash.specs.ParentHash.{root_parent}
use Rattle.mls_check.specs.UnmergedLists.{HasStrictlyIncreasingLists, HasConsistentUnmerged, HasSortedList}
use Rattle.mls_check.specs.ParentHashMarks.{RisesInLeaves}
use Rattle.mls_check.proofs.Elements.{contains-nil, contains-cons, contains-head, contains-tail, unmerged-listed, kept-below, left_out}
use Rattle.mls_check.proofs.OwnLeaves.{own_leaves}
use Rattle.mls_check.proofs.Walks.{increasing-tail, increasing-above}

rises-append : (xs ys : List ℕ) → RisesInLeaves xs → RisesInLeaves ys → ((u v : ℕ) → Contains xs u → Contains ys v → u % 2 ≡ 0 → v % 2 ≡ 0 → u < v) → RisesInLeaves (xs ++ ys)
rises-append [] ys a b h = b
rises-append (x ∷ xs) ys a b h = (
  λ e u c f. elim (Contains-append_cases xs ys u c) [ inl i ↦ a.0 e u i f | inr j ↦ h x u (contains-head x xs) j e f ],
  rises-append xs ys a.1 b (λ u v c d. h u v (contains-tail x xs u c) d),
)

rises-unmerged : (n : ℕ) (xs : List ℕ) → IsStrictlyIncreasing xs → RisesInLeaves (unmerged_node_indices n xs)
rises-unmerged n [] h = tt
rises-unmerged n (x ∷ xs) h =
    elim (cases_lt x n) [
      | inl l ↦
          subst (λ ps. RisesInLeaves ps) (sym (kept-below n x xs l))
          (λ e u c f. (let w = unmerged-listed n xs u c in let k = increasing-above x xs w.0 h w.1 in let d = w.2 in omega (arith, k, d)), rises-unmerged n xs (increasing-tail x xs h))
      | inr g ↦ subst (λ ps. RisesInLeaves ps) (sym (left_out n x xs g)) (rises-unmerged n xs (increasing-tail x xs h))
    ]

-- each unmerged list of a tree whose first leaf is numbered `first` rises, and has leaves under its parent alone
abbrev HasValidUnmergedLists : ℕ → Tree → Type 0
HasValidUnmergedLists first t = (p : ℕ) (s : Subtree) (q : ParentNode) → subtree_at first t p ≡ Some s → root_parent s.tree ≡ Some q → IsStrictlyIncreasing q.unmerged × All (IsLeafOf s) q.unmerged

sound-left : (first : ℕ) (l : Tree) (n : Option ParentNode) (r : Tree) → HasValidUnmergedLists first (branch l n r) → HasValidUnmergedLists first l
sound-left first l n r h p s q e f =
    let at = subtree_at-stands first l p s e in
    h p s q (subtree_at-in_left first l n r p (omega (arith, at.node_index, at.to_right, root_node_index-below s.first s.tree)) ∙ e) f

sound-right : (first : ℕ) (l : Tree) (n : Option ParentNode) (r : Tree) → HasValidUnmergedLists first (branch l n r) → HasValidUnmergedLists (first + leaf_count l) r
sound-right first l n r h p s q e f =
    let at = subtree_at-stands (first + leaf_count l) r p s e in
    h p s q (subtree_at-in_right first l n r p (omega (arith, at.node_index, at.from_left, root_node_index-above s.first s.tree)) ∙ e) f

-- the leaves of a resolution lie in the subtree
inside : (n first : ℕ) (t : Tree) → HasValidUnmergedLists first t → (u : ℕ) → Contains (resolution n first t) u → u % 2 ≡ 0 → (2 * first ≤ u) × (u < 2 * (first + leaf_count t))
inside n first (leaf None) h u c e = absurd (contains-nil u c)
inside n first (leaf (Some x)) h u c e = elim (contains-cons (2 * first) [] u c) [ inl a ↦ (omega (arith, a), omega (arith, a)) | inr b ↦ absurd (contains-nil u b) ]
inside n first (branch l None r) h u c e =
    elim (Contains-append_cases (resolution n first l) (resolution n (first + leaf_count l) r) u c) [
      | inl a ↦ (let k = inside n first l (sound-left first l None r h) u a e in (k.0, omega (arith, k.1)))
      | inr b ↦ (let k = inside n (first + leaf_count l) r (sound-right first l None r h) u b e in (omega (arith, k.0), omega (arith, k.1)))
    ]
inside n first (branch l (Some p) r) h u c e =
    elim (contains-cons (2 * (first + leaf_count l) - 1) (unmerged_node_indices n p.unmerged) u c) [
      | inl a ↦ (let k = leaf_count-positive l in absurd (omega (arith, a, e, k)))
      | inr b ↦
          (let w = unmerged-listed n p.unmerged u b in
          let lists = (h (root_node_index first (branch l (Some p) r)) _ p (subtree_at-root first (branch l (Some p) r)) refl).1 in
          let k = All-contains (IsLeafOf (record { first = first; tree = branch l (Some p) r })) p.unmerged w.0 lists w.1 in
          let d = w.2 in
          (omega (arith, k.0, d), omega (arith, k.1, d)))
    ]

rises-in : (n first : ℕ) (t : Tree) → HasValidUnmergedLists first t → RisesInLeaves (resolution n first t)
rises-in n first (leaf None) h = tt
rises-in n first (leaf (Some x)) h = (λ e u c f. absurd (contains-nil u c), tt)
rises-in n first (branch l None r) h =
    let left = sound-left first l None r h in
    let right = sound-right first l None r h in
    rises-append (resolution n first l) (resolution n (first + leaf_count l) r) (rises-in n first l left) (rises-in n (first + leaf_count l) r right)
    (λ u v c d e f. (let a = inside n first l left u c e in let b = inside n (first + leaf_count l) r right v d f in omega (arith, a.1, b.0)))
rises-in n first (branch l (Some p) r) h = (
  λ e. (let k = leaf_count-positive l in absurd (omega (arith, e, k))),
  rises-unmerged n p.unmerged (h (root_node_index first (branch l (Some p) r)) _ p (subtree_at-root first (branch l (Some p) r)) refl).0,
)

sound_lists : (t : Tree) → HasStrictlyIncreasingLists t → HasConsistentUnmerged t → HasValidUnmergedLists 0 t
sound_lists t sorted consistent p s q e f = (increasing s.tree f (subst (λ o. HasSortedList (entry_of o)) e (sorted p)), own_leaves t consistent p s q e f)
  where
    increasing : (u : Tree) → root_parent u ≡ Some q → HasSortedList (entry_of (Some (record { first = s.first; tree = u }))) → IsStrictlyIncreasing q.unmerged
    increasing (leaf x) f h = absurd (none-some q f)
    increasing (branch l n r) f h = subst (λ (o : Option ParentNode). HasSortedList (option_map parent_node o)) f h

pub resolution-rises : (t : Tree) (p : ℕ) (items now : List ℕ) → HasStrictlyIncreasingLists t → HasConsistentUnmerged t → resolution_at t p ≡ Some items → now ≡ items → RisesInLeaves now
resolution-rises t p items now sorted consistent known same = subst (λ ps. RisesInLeaves ps) (sym same) (go (subtree_at 0 t p) refl known)
  where
    go : (o : Option Subtree) → subtree_at 0 t p ≡ o → option_map (λ (s : Subtree). resolution (leaf_count t) s.first s.tree) o ≡ Some items → RisesInLeaves items
    go None e k = absurd (none-some items k)
    go (Some s) e k =
        subst (λ ps. RisesInLeaves ps) (same_Some _ items k)
        (rises-in (leaf_count t) s.first s.tree (λ q u n f m. sound_lists t sorted consistent q u n (subtree_at-nested 0 t p s e q u f) m))
