-- After an accepted commit a group has at least as many members as the list of the commit has Adds.
use Rattle.std.proofs.Common.{◌≡◌, ℕ, ◌+◌, ◌≤◌, Bool, true, false, List, [], ◌∷◌, length, Option, Some, None, refl, ap, subst, arith}
use Rattle.std.specs.Prelude.{nat_le, nat_lt, if◌then◌else◌, reverse, option_map, option_and_then}
use Rattle.std.proofs.lemmas.Option.{none-some, same_Some, option_and_then_some, cond_some}
use Rattle.mls_nodes.specs.Limits.{leaf_limit}
use Rattle.mls_nodes.specs.declared.leaf.LeafNode.{LeafNode}
use Rattle.mls_msgs.specs.declared.commit.UpdatePath.{UpdatePath}
use Rattle.mls_msgs.specs.declared.framed_content.Sender.{Sender}
use Rattle.mls_msgs.specs.declared.framed_content.Sender.TheVariants as senders
use Rattle.mls_hash.specs.SuiteHash.{hash_of}
use Rattle.mls_check.specs.Signatures.{VerifyFn}
use Rattle.mls_tree.specs.Tree.{Tree, leaf, branch, leaf_count, member_count}
use Rattle.mls_tree.specs.BlankLeaves.{first_blank_leaf}
use Rattle.mls_tree.specs.TreeOperations.{add, extended_if_full}
use Rattle.mls_apply.specs.declared.list_item.ListItem.{ListItem}
use Rattle.mls_apply.specs.AppliedList.{AppliedTree, applied_tree, outcome, with_members, new_members, without_adds, after_adds}
use Rattle.mls_apply.specs.MergePath.{path_step_at, merged_from}
use Rattle.mls_apply.specs.PathRules.{node_keys}
use Rattle.mls_apply.proofs.AddedLeaves.{one_added}
use Rattle.mls_apply.proofs.Adding.{member_count-add}
use Rattle.mls_apply.proofs.LeavesAreValid.{member_count-extend}
use Rattle.mls_apply.proofs.Merging.{came_from}
use Rattle.mls_apply.proofs.SoundOutcomes.{where_so}
use Rattle.mls_follow.specs.State.{State}
use Rattle.mls_follow.specs.MessageRules.{CommitterTree, committer_tree, seated, resulting}
use Rattle.mls_follow.proofs.Stepping.{Moves}

-- ---- a list

-- each Add brings one member
member_count-after_adds : (xs : List LeafNode) (t : Tree) (g : AppliedTree) → after_adds xs t ≡ Some g → member_count g.tree ≡ member_count t + length xs
unfolding after_adds
member_count-after_adds [] t g e = let same = ap (λ (v : AppliedTree). member_count v.tree) (same_Some (applied_tree t []) g e) in omega arith
member_count-after_adds (x ∷ xs) t g e =
    let m = one_added t x xs g e in
    let same = ap member_count m.2 in
    let later = member_count-after_adds xs (add t x) m.0 m.1 in
    let one = member_count-add t x in
    omega arith

-- the members after a list are no fewer than its Adds
pub outcome_members : (items : List ListItem) (t : Tree) (g : AppliedTree) → outcome items t ≡ Some g → length (new_members items) ≤ member_count g.tree
unfolding outcome with_members
outcome_members items t g e =
    option_and_then_some (with_members (new_members items)) (without_adds items t) g e
    (λ w a b.
    let adds = where_so (nat_le (member_count w + length (new_members items)) leaf_limit) (after_adds (new_members items) w) g b in
    omega (arith, member_count-after_adds (new_members items) w g adds))

-- ---- the leaf of a committer

member_count-extended : (o : Option ℕ) (t : Tree) → member_count (extended_if_full o t) ≡ member_count t
member_count-extended None t = member_count-extend t
member_count-extended (Some j) t = refl

-- the leaf of a committer takes no member away
pub committer_members : (committer : Sender) (g : AppliedTree) (q : CommitterTree) → committer_tree committer g ≡ Some q → member_count g.tree ≤ member_count q.applied_tree.tree
committer_members (senders.Member i) g q e =
    let same = ap (λ (p : CommitterTree). member_count p.applied_tree.tree) (same_Some (record { applied_tree = g; leaf = i }) q e) in omega arith
committer_members (senders.External k) g q e = absurd (none-some q e)
committer_members senders.NewMemberProposal g q e = absurd (none-some q e)
committer_members senders.NewMemberCommit g q e =
    let same = ap (λ (p : CommitterTree). member_count p.applied_tree.tree) (cond_some (nat_lt (member_count g.tree) leaf_limit) (seated g) q e).1 in
    let grown = member_count-extended (first_blank_leaf 0 g.tree) g.tree in
    omega arith

-- ---- a path

leaf_members : (y : Option LeafNode) (x : LeafNode) → member_count (leaf y) ≤ member_count (leaf (Some x))
leaf_members None x = omega arith
leaf_members (Some y) x = omega arith

module _ (H : List ℕ → List ℕ) (leaves i : ℕ) (x : LeafNode) where
  merged_members : (first : ℕ) (t u : Tree) (hash : List ℕ) (keys : List (List ℕ)) → merged_from H leaves first t i x hash keys ≡ Some u → member_count t ≤ member_count u
  merged_members first (leaf y) u hash (_ ∷ _) e = absurd (none-some u e)
  merged_members first (leaf y) u hash [] e =
      subst (λ v. member_count (leaf y) ≤ member_count v) (same_Some (leaf (Some x)) u e) (leaf_members y x)
  merged_members first (branch l p r) u hash keys e =
      go (nat_lt i (first + leaf_count l)) (λ v m ks. merged_members first l v m ks) (λ v m ks. merged_members (first + leaf_count l) r v m ks) e
    where
      go : (c : Bool)
          → ((v : Tree) (m : List ℕ) (ks : List (List ℕ)) → merged_from H leaves first l i x m ks ≡ Some v → member_count l ≤ member_count v)
          → ((v : Tree) (m : List ℕ) (ks : List (List ℕ)) → merged_from H leaves (first + leaf_count l) r i x m ks ≡ Some v → member_count r ≤ member_count v)
          → (if c
          then option_and_then (λ n. option_map (λ t. branch t n.parent r) (merged_from H leaves first l i x n.hash n.keys)) (path_step_at H leaves (first + leaf_count l) r hash keys)
          else option_and_then (λ n. option_map (λ t. branch l n.parent t) (merged_from H leaves (first + leaf_count l) r i x n.hash n.keys)) (path_step_at H leaves first l hash keys)) ≡ Some u
          → member_count (branch l p r) ≤ member_count u
      go true in_left in_right e =
          option_and_then_some (λ n. option_map (λ t. branch t n.parent r) (merged_from H leaves first l i x n.hash n.keys)) (path_step_at H leaves (first + leaf_count l) r hash keys) u e
          (λ n a b.
          let w = came_from (λ t. branch t n.parent r) (merged_from H leaves first l i x n.hash n.keys) u b in
          let same = ap member_count w.2 in
          let part = in_left w.0 n.hash n.keys w.1 in
          omega arith)
      go false in_left in_right e =
          option_and_then_some (λ n. option_map (λ t. branch l n.parent t) (merged_from H leaves (first + leaf_count l) r i x n.hash n.keys)) (path_step_at H leaves first l hash keys) u e
          (λ n a b.
          let w = came_from (λ t. branch l n.parent t) (merged_from H leaves (first + leaf_count l) r i x n.hash n.keys) u b in
          let same = ap member_count w.2 in
          let part = in_right w.0 n.hash n.keys w.1 in
          omega arith)

-- a path takes no member away
pub resulting_members : (H : List ℕ → List ℕ) (g : AppliedTree) (i : ℕ) (path : Option UpdatePath) (t : Tree) → resulting H g i path ≡ Some t
    → member_count g.tree ≤ member_count t
resulting_members H g i None t e = let same = ap member_count (same_Some g.tree t e) in omega arith
resulting_members H g i (Some path) t e = merged_members H (leaf_count g.tree) i path.leaf_node 0 g.tree t [] (reverse (node_keys path)) e

-- ---- a commit

-- the members after a commit are no fewer than the Adds of its list
pub commit_members : (G : VerifyFn) (s t : State) (m : Moves G s t) → length (new_members m.items) ≤ member_count t.tree
commit_members G s t m =
    let listed = outcome_members m.items s.tree m.applied_tree m.made in
    let placed = committer_members m.committer m.applied_tree m.node_index m.committer_tree_at in
    let merged = resulting_members (hash_of s.context.cipher_suite) m.node_index.applied_tree m.node_index.leaf m.path t.tree m.merged in
    omega arith
