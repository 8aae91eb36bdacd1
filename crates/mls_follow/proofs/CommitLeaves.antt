-- A set leaf of the tree after a commit is that of its path, one that its list brings, or the same as before.
use Rattle.std.proofs.Common.{◌≡◌, ◌≢◌, ◌∙◌, ℕ, ◌+◌, ◌<◌, ◌≤◌, List, [], ◌∷◌, Option, Some, None, refl, sym, ap, subst, inl, inr, arith}
use Rattle.std.specs.Prelude.{MatchOption, ◌⊎◌, is_some, reverse, length, nat_le, option_map, option_and_then}
use Rattle.std.specs.List.{Contains}
use Rattle.std.proofs.lemmas.Bool.{cases_lt, cases_eq}
use Rattle.std.proofs.lemmas.List.Elements.{Contains-append_left, Contains-append_right}
use Rattle.std.proofs.lemmas.Option.{none-some, same_Some, option_and_then_some, cond_some}
use Rattle.mls_nodes.specs.declared.leaf.LeafNode.{LeafNode}
use Rattle.mls_nodes.specs.declared.parent.ParentNode.{ParentNode}
use Rattle.mls_nodes.specs.Limits.{leaf_limit}
use Rattle.mls_msgs.specs.declared.commit.UpdatePath.{UpdatePath}
use Rattle.mls_msgs.specs.declared.framed_content.Sender.{Sender}
use Rattle.mls_msgs.specs.declared.proposal.Proposal.{Proposal}
use Rattle.mls_apply.specs.Senders.{member_index}
use Rattle.mls_msgs.specs.declared.proposal.Proposal.TheVariants.{Add, Update, Remove, ContextExtensions, PreSharedKey, ReInit, ExternalInit}
use Rattle.mls_tree.specs.Tree.{Tree, leaf, branch, height, leaf_count, leaf_at, member_count}
use Rattle.mls_tree.specs.BlankLeaves.{first_blank_leaf, IsFirstBlank, AllLeavesNonBlank}
use Rattle.mls_tree.specs.TreeOperations.{update, extend, add, add_at, added_leaf, extended_if_full, number_or, blank_tree, is_overfilled_above}
use Rattle.mls_tree.proofs.Choices.{below, from as past}
use Rattle.mls_tree.proofs.Added.{leaf_at-add_at_other}
use Rattle.mls_tree.proofs.FirstBlanks.{first_blank_leaf-leftmost}
use Rattle.mls_tree.proofs.Kept.{leaf_at-extend}
use Rattle.mls_tree.proofs.Trees.{leaf_count-positive}
use Rattle.mls_check.proofs.Elements.{contains-head, contains-tail}
use Rattle.mls_check.proofs.Leaves.{leaf_at-leaf, leaf_at-left, leaf_at-right}
use Rattle.mls_apply.specs.declared.list_item.ListItem.{ListItem}
use Rattle.mls_apply.specs.ListRules.{replaced_leaf}
use Rattle.mls_apply.specs.MergePath.{PathStep, path_step_at, merged_from}
use Rattle.mls_apply.specs.AppliedList.{AppliedTree, applied_tree, outcome, with_members, new_members, without_adds, after_leaf, after_adds, updated_at, after_update, after_updates, after_removes}
use Rattle.mls_apply.specs.PathRules.{node_keys}
use Rattle.mls_apply.proofs.Leaves.{kept_beside}
use Rattle.mls_apply.proofs.Merging.{came_from}
use Rattle.mls_apply.proofs.SoundOutcomes.{unless, where_so}
use Rattle.mls_follow.specs.MessageRules.{resulting}
use Rattle.mls_signatures.specs.SignaturesToVerify.{index_before, replaced_leaves, new_leaves}
use Rattle.mls_signatures.proofs.RemovedLeaves as removed

module _ (j : ℕ) where
  index_later : (o : Option ℕ) (js : List ℕ) → Contains js j → Contains (index_before o js) j
  index_later None js c = c
  index_later (Some k) js c = contains-tail k js j c

  index_first : (o : Option ℕ) (js : List ℕ) → o ≡ Some j → Contains (index_before o js) j
  index_first None js e = absurd (none-some j e)
  index_first (Some k) js e = subst (λ i. Contains (k ∷ js) i) (same_Some k j e) (contains-head k js)

  index_here : (k : ℕ) (js : List ℕ) → k ≡ j → Contains (k ∷ js) j
  index_here k js e = subst (λ i. Contains (k ∷ js) i) e (contains-head k js)

  module _ (x : LeafNode) where
    -- the leaf is set, to this leaf node
    abbrev Stood : Tree → Type 0
    Stood t = removed.Stood j x t

    same_tree : (t u : Tree) → t ≡ u → Stood u → Stood t
    same_tree t u e set = removed.same_tree j x t u e set

    -- ---- Updates

    of_member : (o : Option ℕ) (y : LeafNode) (t u : Tree) → updated_at o y t ≡ Some u → Stood u → (o ≡ Some j) ⊎ Stood t
    of_member None y t u e set = absurd (none-some u e)
    of_member (Some i) y t u e set =
        let parts = cond_some (is_some (leaf_at 0 t i)) (update t i y) u e in
        elim (cases_eq j i) [
          | inl same ↦ inl (ap (λ k. Some k) (sym same))
          | inr away ↦ inr (sym (kept_beside t i j (Some y) parts.0 away) ∙ same_tree (update t i y) u parts.1 set)
        ]

    updated : (sender : Sender) (p : Proposal) (t u : Tree) → after_update sender p t ≡ Some u → Stood u → (replaced_leaf sender p ≡ Some j) ⊎ Stood t
    updated sender (Add k) t u e set = inr (same_tree t u (same_Some t u e) set)
    updated sender (Remove k) t u e set = inr (same_tree t u (same_Some t u e) set)
    updated sender (ContextExtensions es) t u e set = inr (same_tree t u (same_Some t u e) set)
    updated sender (PreSharedKey es) t u e set = inr (same_tree t u (same_Some t u e) set)
    updated sender (ReInit es) t u e set = inr (same_tree t u (same_Some t u e) set)
    updated sender (ExternalInit es) t u e set = inr (same_tree t u (same_Some t u e) set)
    updated sender (Update y) t u e set = of_member (member_index sender) y t u e set

    updates : (items : List ListItem) (t u : Tree) → after_updates items t ≡ Some u → Stood u → Contains (replaced_leaves items) j ⊎ Stood t
    unfolding after_updates
    updates [] t u e set = inr (same_tree t u (same_Some t u e) set)
    updates (y ∷ ys) t u e set =
        option_and_then_some (after_updates ys) (after_update y.sender y.proposal t) u e
        (λ v a b. elim (updates ys v u b set) [
          | inl c ↦ inl (index_later (replaced_leaf y.sender y.proposal) (replaced_leaves ys) c)
          | inr f ↦ elim (updated y.sender y.proposal t v a f) [
            | inl r ↦ inl (index_first (replaced_leaf y.sender y.proposal) (replaced_leaves ys) r)
            | inr w ↦ inr w
          ]
        ])

    -- ---- Adds

    beside : (t : Tree) (y : LeafNode) (o : Option ℕ) → MatchOption o (AllLeavesNonBlank t) (λ k. IsFirstBlank t k) → j ≢ number_or (leaf_count t) o
        → leaf_at 0 (add_at (extended_if_full o t) (number_or (leaf_count t) o) y) j ≡ leaf_at 0 t j
    beside t y None h away =
        leaf_at-add_at_other (extend t) (leaf_count t) j y (omega (arith, leaf_count-positive (blank_tree (height t)))) away ∙ leaf_at-extend t j
    beside t y (Some k) h away = leaf_at-add_at_other t k j y h.inside away

    added : (t : Tree) (y : LeafNode) → Stood (add t y) → (added_leaf t ≡ j) ⊎ Stood t
    added t y set =
        elim (cases_eq j (added_leaf t)) [
          | inl same ↦ inl (sym same)
          | inr away ↦ inr (sym (beside t y (first_blank_leaf 0 t) (first_blank_leaf-leftmost t) away) ∙ set)
        ]

    adds : (ys : List LeafNode) (t : Tree) (g : AppliedTree) → after_adds ys t ≡ Some g → Stood g.tree → Contains g.added j ⊎ Stood t
    unfolding after_adds
    adds [] t g e set = inr (same_tree t g.tree (ap (λ (v : AppliedTree). v.tree) (same_Some (applied_tree t []) g e)) set)
    adds (y ∷ ys) t g e set =
        let m = came_from (after_leaf (added_leaf t)) (after_adds ys (add t y)) g
        (unless (is_overfilled_above 0 (extended_if_full (first_blank_leaf 0 t) t) (added_leaf t)) (option_map (after_leaf (added_leaf t)) (after_adds ys (add t y))) g e) in
        elim (adds ys (add t y) m.0 m.1 (same_tree m.0.tree g.tree (ap (λ (v : AppliedTree). v.tree) m.2) set)) [
          | inl c ↦ inl (subst (λ (v : AppliedTree). Contains v.added j) m.2 (contains-tail (added_leaf t) m.0.added j c))
          | inr f ↦ elim (added t y f) [
            | inl s ↦ inl (subst (λ (v : AppliedTree). Contains v.added j) m.2 (index_here (added_leaf t) m.0.added s))
            | inr w ↦ inr w
          ]
        ]

    -- after a whole list
    pub listed : (items : List ListItem) (t : Tree) (g : AppliedTree) → outcome items t ≡ Some g → Stood g.tree → Contains (new_leaves items g) j ⊎ Stood t
    unfolding outcome with_members
    listed items t g e set =
        option_and_then_some (with_members (new_members items)) (without_adds items t) g e
        (λ w a b. option_and_then_some (after_removes items) (after_updates items t) w a
        (λ v c d. elim (adds (new_members items) w g
        (where_so (nat_le (member_count w + length (new_members items)) leaf_limit) (after_adds (new_members items) w) g b) set) [
          | inl k ↦ inl (Contains-append_right (replaced_leaves items) g.added j k)
          | inr f ↦ elim (updates items t v c (removed.removes j x items v w d f)) [
            | inl k ↦ inl (Contains-append_left (replaced_leaves items) g.added j k)
            | inr h ↦ inr h
          ]
        ]))

    -- ---- paths

    -- what a path, by which leaf i becomes y, leaves of a subtree, whose first leaf has the index `first`
    record IsPathed (i : ℕ) (y : LeafNode) (first : ℕ) (t u : Tree) : Type 0 where
      count : leaf_count u ≡ leaf_count t
      stood : leaf_at first u j ≡ Some x → ((i ≡ j) × (y ≡ x)) ⊎ (leaf_at first t j ≡ Some x)

    pathed_left : (i : ℕ) (y : LeafNode) (first : ℕ) (l u r : Tree) (n p : Option ParentNode) → IsPathed i y first l u → IsPathed i y first (branch l n r) (branch u p r)
    pathed_left i y first l u r n p m = record {
      count = ap (λ k. k + leaf_count r) m.count;
      stood = λ set. elim (cases_lt j (first + leaf_count l)) [
        | inl low ↦ elim (m.stood (sym (leaf_at-left first u p r j (omega (arith, m.count))) ∙ set)) [
          | inl same ↦ inl same
          | inr e ↦ inr (leaf_at-left first l n r j low ∙ e)
        ]
        | inr from ↦
            inr (leaf_at-right first l n r j from ∙ ap (λ k. leaf_at (first + k) r j) (sym m.count)
            ∙ sym (leaf_at-right first u p r j (omega (arith, m.count))) ∙ set)
      ];
    }

    pathed_right : (i : ℕ) (y : LeafNode) (first : ℕ) (l r u : Tree) (n p : Option ParentNode) → IsPathed i y (first + leaf_count l) r u → IsPathed i y first (branch l n r) (branch l p u)
    pathed_right i y first l r u n p m = record {
      count = ap (λ k. leaf_count l + k) m.count;
      stood = λ set. elim (cases_lt j (first + leaf_count l)) [
        | inl low ↦ inr (leaf_at-left first l n r j low ∙ sym (leaf_at-left first l p u j low) ∙ set)
        | inr from ↦ elim (m.stood (sym (leaf_at-right first l p u j from) ∙ set)) [
          | inl same ↦ inl same
          | inr e ↦ inr (leaf_at-right first l n r j from ∙ e)
        ]
      ];
    }

    module _ (H : List ℕ → List ℕ) (leaves i : ℕ) (y : LeafNode) where
      pathed : (first : ℕ) (t u : Tree) (hash : List ℕ) (keys : List (List ℕ)) → first ≤ i → i < first + leaf_count t
          → merged_from H leaves first t i y hash keys ≡ Some u → IsPathed i y first t u
      pathed first (leaf z) u hash (k ∷ ks) from low e = absurd (none-some u e)
      pathed first (leaf z) u hash [] from low e =
          subst (λ v. IsPathed i y first (leaf z) v) (same_Some (leaf (Some y)) u e)
          (record { count = refl; stood = λ set. let at = leaf_at-leaf first (Some y) j x set in inl (omega (arith, at.0), same_Some y x at.1) })
      pathed first (branch l n r) u hash keys from low e =
          let by_left : PathStep → Option Tree = λ h. option_map (λ v. branch v h.parent r) (merged_from H leaves first l i y h.hash h.keys) in
          let by_right : PathStep → Option Tree = λ h. option_map (λ v. branch l h.parent v) (merged_from H leaves (first + leaf_count l) r i y h.hash h.keys) in
          let left : Option Tree = option_and_then by_left (path_step_at H leaves (first + leaf_count l) r hash keys) in
          let right : Option Tree = option_and_then by_right (path_step_at H leaves first l hash keys) in
          elim (cases_lt i (first + leaf_count l)) [
            | inl less ↦
                option_and_then_some by_left (path_step_at H leaves (first + leaf_count l) r hash keys) u (sym (below i (first + leaf_count l) left right less) ∙ e)
                (λ h a b.
                let w = came_from (λ v. branch v h.parent r) (merged_from H leaves first l i y h.hash h.keys) u b in
                subst (λ v. IsPathed i y first (branch l n r) v) w.2 (pathed_left i y first l w.0 r n h.parent (pathed first l w.0 h.hash h.keys from less w.1)))
            | inr more ↦
                option_and_then_some by_right (path_step_at H leaves first l hash keys) u (sym (past i (first + leaf_count l) left right more) ∙ e)
                (λ h a b.
                let w = came_from (λ v. branch l h.parent v) (merged_from H leaves (first + leaf_count l) r i y h.hash h.keys) u b in
                subst (λ v. IsPathed i y first (branch l n r) v) w.2
                (pathed_right i y first l r w.0 n h.parent (pathed (first + leaf_count l) r w.0 h.hash h.keys more (omega arith) w.1)))
          ]

    -- the leaf of a path of the client at leaf i
    abbrev pub IsPathLeaf : ℕ → Option UpdatePath → Type 0
    IsPathLeaf i None = ⊥
    IsPathLeaf i (Some path) = (i ≡ j) × (path.leaf_node ≡ x)

    -- after the path of a commit of the client at leaf i, which is one of the tree after the list
    pub new_leaf_is : (H : List ℕ → List ℕ) (g : AppliedTree) (i : ℕ) (path : Option UpdatePath) (u : Tree)
        → i < leaf_count g.tree → resulting H g i path ≡ Some u → Stood u → IsPathLeaf i path ⊎ Stood g.tree
    new_leaf_is H g i None u inside e set = inr (same_tree g.tree u (same_Some g.tree u e) set)
    new_leaf_is H g i (Some path) u inside e set =
        (pathed H (leaf_count g.tree) i path.leaf_node 0 g.tree u [] (reverse (node_keys path)) (omega arith) (omega (arith, inside)) e).stood set
