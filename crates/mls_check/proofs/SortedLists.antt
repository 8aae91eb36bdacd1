-- Where every unmerged list is strictly increasing, none falls.
use Rattle.std.proofs.Common.{◌≡◌, ℕ, zero, suc, ◌+◌, ◌-◌, ◌<◌, ◌≤◌, List, length, get_or, Option, Some, None, ap, subst, arith}
use Rattle.std.specs.Prelude.{option_map, option_and_then}
use Rattle.std.specs.List.Sorted.{IsNonDecreasing, IsStrictlyIncreasing}
use Rattle.std.proofs.lemmas.List.Sorted.{IsNonDecreasingBy-from_default}
use Rattle.std.proofs.lemmas.Option.{none-some}
use Rattle.mls_nodes.specs.declared.parent.ParentNode.{ParentNode}
use Rattle.mls_nodes.specs.NodeModel.{parent_node}
use Rattle.mls_tree.specs.Tree.{Tree, leaf, branch, Subtree, subtree_at, root_entry, entry_of}
use Rattle.mls_hash.specs.OriginalTreeHashes.{HasNonDecreasingLists}
use Rattle.mls_hash.specs.ParentHash.{root_parent}
use Rattle.mls_check.specs.UnmergedLists.{HasStrictlyIncreasingLists, HasSortedList}

further : (xs : List ℕ) → IsStrictlyIncreasing xs → (i n : ℕ) → i + n < length xs → get_or xs i 0 ≤ get_or xs (i + n) 0
further xs h i zero lt = let same : i + 0 ≡ i = omega arith in omega (arith, ap (λ k. get_or xs k 0) same)
further xs h i (suc n) lt =
    let before = further xs h i n (omega arith) in
    let step = h (i + n) (omega arith) in
    let next : i + suc n ≡ i + n + 1 = omega arith in
    omega (arith, before, step, ap (λ k. get_or xs k 0) next)

increasing : (xs : List ℕ) → IsStrictlyIncreasing xs → IsNonDecreasing xs
increasing xs h =
    IsNonDecreasingBy-from_default (λ x. x) xs 0
    (λ i j le lt. (let there : i + (j - i) ≡ j = omega arith in subst (λ k. get_or xs i 0 ≤ get_or xs k 0) there (further xs h i (j - i) (omega arith))))

pub sorted_lists : (t : Tree) → HasStrictlyIncreasingLists t → HasNonDecreasingLists t
sorted_lists t sorted node_index p e = go (subtree_at 0 t node_index) (sorted node_index) e
  where
    listed : (u : Tree) → HasSortedList (root_entry u) → root_parent u ≡ Some p → IsNonDecreasing p.unmerged
    listed (leaf x) h e = absurd (none-some p e)
    listed (branch l n r) h e = increasing p.unmerged (subst (λ (o : Option ParentNode). HasSortedList (option_map parent_node o)) e h)

    go : (o : Option Subtree) → HasSortedList (entry_of o) → option_and_then (λ (s : Subtree). root_parent s.tree) o ≡ Some p → IsNonDecreasing p.unmerged
    go None h e = absurd (none-some p e)
    go (Some s) h e = listed s.tree h e
