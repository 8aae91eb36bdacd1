-- What holds of each leaf node of a tree, and of each encryption key of a parent, holds after a commit, if it holds of what the
-- commit brings.
use Rattle.std.proofs.Common.{◌≡◌, ◌∙◌, ℕ, zero, suc, ◌+◌, List, [], ◌∷◌, ◌++◌, length, Bool, true, false, Option, Some, None, is_some, refl, sym, subst}
use Rattle.std.specs.Prelude.{if◌then◌else◌, nat_le, nat_lt, reverse, slice_get, unwrap_or, All, option_map, option_and_then}
use Rattle.std.proofs.lemmas.Option.{none-some, same_Some, option_and_then_some, cond_some}
use Rattle.std.proofs.lemmas.List.Elements.{All-nil, All-cons, All-head, All-tail}
use Rattle.mls_nodes.specs.Limits.{leaf_limit}
use Rattle.mls_nodes.specs.NodeModel.{NodeValue, leaf_node, parent_node}
use Rattle.mls_nodes.specs.declared.leaf.LeafNode.{LeafNode}
use Rattle.mls_nodes.specs.declared.parent.ParentNode.{ParentNode}
use Rattle.mls_tree.specs.Tree.{Tree, leaf, branch, height, leaf_count, member_count, leaf_at, leaf_entry, parent_entry, listing, node_at}
use Rattle.mls_tree.specs.BlankLeaves.{first_blank_leaf}
use Rattle.mls_tree.specs.Paths.{resolution}
use Rattle.mls_tree.specs.TreeOperations.{put_leaf, change_above, blank_path, has_non_blank_leaf, truncate, blank_tree, update, remove, with_unmerged, is_overfilled_above, add_unmerged, add, added_leaf, extended_if_full}
use Rattle.mls_tree.proofs.Kept.{either}
use Rattle.mls_tree.proofs.Positions.{node_at-listing}
use Rattle.mls_msgs.specs.declared.commit.UpdatePath.{UpdatePath}
use Rattle.mls_msgs.specs.declared.framed_content.Sender.{Sender}
use Rattle.mls_msgs.specs.declared.framed_content.Sender.TheVariants as senders
use Rattle.mls_msgs.specs.declared.proposal.Proposal.{Proposal}
use Rattle.mls_msgs.specs.declared.proposal.Proposal.TheVariants.{Add, Update, Remove, ContextExtensions, PreSharedKey, ReInit, ExternalInit}
use Rattle.mls_apply.specs.declared.list_item.ListItem.{ListItem}
use Rattle.mls_apply.specs.Senders.{member_index}
use Rattle.mls_apply.specs.AppliedList.{AppliedTree, applied_tree, outcome, with_members, new_members, added_to, without_adds, after_leaf, after_adds, updated_at, after_update, after_updates, after_remove, after_removes}
use Rattle.mls_apply.specs.MergePath.{PathStep, path_step_at, path_step, path_parent, path_hash, merged_from}
use Rattle.mls_apply.specs.PathRules.{node_keys}
use Rattle.mls_apply.proofs.Making.{All-reverse}
use Rattle.mls_apply.proofs.SoundOutcomes.{unless, where_so, mapped}
use Rattle.mls_follow.specs.MessageRules.{CommitterTree, seated, committer_tree, resulting, changed_tree}

-- P of a leaf node, K of a parent's encryption key
module _ (P : LeafNode → Type 0) (K : List ℕ → Type 0) where
  abbrev OfLeaf : Option LeafNode → Type 0
  OfLeaf None = Unit {0}
  OfLeaf (Some x) = P x

  abbrev OfParent : Option ParentNode → Type 0
  OfParent None = Unit {0}
  OfParent (Some p) = K p.encryption_key

  -- of each node that is set
  abbrev pub AreGood : Tree → Type 0
  AreGood (leaf x) = OfLeaf x
  AreGood (branch l p r) = AreGood l × OfParent p × AreGood r

  -- ---- by node index

  abbrev pub OfNode : NodeValue → Type 0
  OfNode (leaf_node x) = P x
  OfNode (parent_node p) = K p.encryption_key

  abbrev OfEntry : Option NodeValue → Type 0
  OfEntry None = Unit {0}
  OfEntry (Some n) = OfNode n

  abbrev OfEntries : List (Option NodeValue) → Type 0
  OfEntries [] = Unit {0}
  OfEntries (n ∷ ns) = OfEntry n × OfEntries ns

  leaf-entry : (x : Option LeafNode) → OfLeaf x → OfEntry (leaf_entry x)
  leaf-entry None h = tt
  leaf-entry (Some x) h = h

  entry-leaf : (x : Option LeafNode) → OfEntry (leaf_entry x) → OfLeaf x
  entry-leaf None h = tt
  entry-leaf (Some x) h = h

  parent-entry : (p : Option ParentNode) → OfParent p → OfEntry (parent_entry p)
  parent-entry None h = tt
  parent-entry (Some p) h = h

  entry-parent : (p : Option ParentNode) → OfEntry (parent_entry p) → OfParent p
  entry-parent None h = tt
  entry-parent (Some p) h = h

  entries_both : (xs ys : List (Option NodeValue)) → OfEntries xs → OfEntries ys → OfEntries (xs ++ ys)
  entries_both [] ys a b = b
  entries_both (x ∷ xs) ys a b = (a.0, entries_both xs ys a.1 b)

  entries_parts : (xs ys : List (Option NodeValue)) → OfEntries (xs ++ ys) → OfEntries xs × OfEntries ys
  entries_parts [] ys h = (tt, h)
  entries_parts (x ∷ xs) ys h = let parts = entries_parts xs ys h.1 in ((h.0, parts.0), parts.1)

  listed : (t : Tree) → AreGood t → OfEntries (listing t)
  listed (leaf x) h = (leaf-entry x h, tt)
  listed (branch l p r) h = entries_both (listing l) (parent_entry p ∷ listing r) (listed l h.0) (parent-entry p h.1, listed r h.2)

  unlisted : (t : Tree) → OfEntries (listing t) → AreGood t
  unlisted (leaf x) h = entry-leaf x h.0
  unlisted (branch l p r) h =
      let parts = entries_parts (listing l) (parent_entry p ∷ listing r) h in
      (unlisted l parts.0, entry-parent p parts.1.0, unlisted r parts.1.1)

  entry_at : (xs : List (Option NodeValue)) (p : ℕ) (n : NodeValue) → OfEntries xs → unwrap_or (slice_get xs p) None ≡ Some n → OfNode n
  entry_at [] p n h e = absurd (none-some n e)
  entry_at (x ∷ xs) zero n h e = subst OfEntry e h.0
  entry_at (x ∷ xs) (suc p) n h e = entry_at xs p n h.1 e

  entries_from : (xs : List (Option NodeValue)) → ((p : ℕ) (n : NodeValue) → unwrap_or (slice_get xs p) None ≡ Some n → OfNode n) → OfEntries xs
  entries_from [] each = tt
  entries_from (None ∷ xs) each = (tt, entries_from xs (λ p n e. each (suc p) n e))
  entries_from (Some x ∷ xs) each = (each zero x refl, entries_from xs (λ p n e. each (suc p) n e))

  pub good-from_nodes : (t : Tree) → ((p : ℕ) (n : NodeValue) → node_at t p ≡ Some n → OfNode n) → AreGood t
  good-from_nodes t each = unlisted t (entries_from (listing t) (λ p n e. each p n (node_at-listing t p ∙ e)))

  pub nodes-from_good : (t : Tree) → AreGood t → (p : ℕ) (n : NodeValue) → node_at t p ≡ Some n → OfNode n
  nodes-from_good t h p n e = entry_at (listing t) p n (listed t h) (sym (node_at-listing t p) ∙ e)

  -- ---- changes

  good-put_leaf : (first : ℕ) (t : Tree) (i : ℕ) (x : Option LeafNode) → OfLeaf x → AreGood t → AreGood (put_leaf first t i x)
  good-put_leaf first (leaf y) i x s h = s
  good-put_leaf first (branch l p r) i x s h =
      either AreGood (nat_lt i (first + leaf_count l)) (branch (put_leaf first l i x) p r) (branch l p (put_leaf (first + leaf_count l) r i x))
      (good-put_leaf first l i x s h.0, h.1, h.2) (h.0, h.1, good-put_leaf (first + leaf_count l) r i x s h.2)

  module _ (f : Option ParentNode → Option ParentNode) (keeps : (p : Option ParentNode) → OfParent p → OfParent (f p)) where
    good-change_above : (first : ℕ) (t : Tree) (i : ℕ) → AreGood t → AreGood (change_above f first t i)
    good-change_above first (leaf x) i h = h
    good-change_above first (branch l p r) i h =
        either AreGood (nat_lt i (first + leaf_count l)) (branch (change_above f first l i) (f p) r) (branch l (f p) (change_above f (first + leaf_count l) r i))
        (good-change_above first l i h.0, keeps p h.1, h.2) (h.0, keeps p h.1, good-change_above (first + leaf_count l) r i h.2)

  unmerged-keeps : (j : ℕ) (p : Option ParentNode) → OfParent p → OfParent (with_unmerged j p)
  unmerged-keeps j None h = tt
  unmerged-keeps j (Some p) h = h

  good-blank_tree : (k : ℕ) → AreGood (blank_tree k)
  good-blank_tree zero = tt
  good-blank_tree (suc k) = (good-blank_tree k, tt, good-blank_tree k)

  good-extended : (o : Option ℕ) (t : Tree) → AreGood t → AreGood (extended_if_full o t)
  good-extended None t h = (h, tt, good-blank_tree (height t))
  good-extended (Some j) t h = h

  good-truncate : (t : Tree) → AreGood t → AreGood (truncate t)
  good-truncate (leaf x) h = h
  good-truncate (branch l p r) h = either AreGood (has_non_blank_leaf r) (branch l p r) (truncate l) h (good-truncate l h.0)

  good-replaced : (t : Tree) (i : ℕ) (x : Option LeafNode) → OfLeaf x → AreGood t → AreGood (blank_path (put_leaf 0 t i x) i)
  good-replaced t i x s h = good-change_above (λ _. None) (λ p k. tt) 0 (put_leaf 0 t i x) i (good-put_leaf 0 t i x s h)

  good-add : (t : Tree) (x : LeafNode) → P x → AreGood t → AreGood (add t x)
  good-add t x s h =
      good-put_leaf 0 (add_unmerged (extended_if_full (first_blank_leaf 0 t) t) (added_leaf t)) (added_leaf t) (Some x) s
      (good-change_above (with_unmerged (added_leaf t)) (unmerged-keeps (added_leaf t)) 0 (extended_if_full (first_blank_leaf 0 t) t) (added_leaf t)
      (good-extended (first_blank_leaf 0 t) t h))

  -- ---- a list

  -- of the leaf node that a proposal brings, if it brings one
  abbrev pub BringsGood : Proposal → Type 0
  BringsGood (Add k) = P k.leaf_node
  BringsGood (Update x) = P x
  BringsGood (Remove i) = Unit {0}
  BringsGood (ContextExtensions es) = Unit {0}
  BringsGood (PreSharedKey es) = Unit {0}
  BringsGood (ReInit es) = Unit {0}
  BringsGood (ExternalInit es) = Unit {0}

  abbrev pub BringGood : List ListItem → Type 0
  BringGood items = All (λ (x : ListItem). BringsGood x.proposal) items

  member-good : (o : Option ℕ) (x : LeafNode) (t u : Tree) → P x → AreGood t → updated_at o x t ≡ Some u → AreGood u
  member-good None x t u s h e = absurd (none-some u e)
  member-good (Some i) x t u s h e = subst AreGood (cond_some (is_some (leaf_at 0 t i)) (update t i x) u e).1 (good-replaced t i (Some x) s h)

  update-good : (sender : Sender) (p : Proposal) (t u : Tree) → BringsGood p → AreGood t → after_update sender p t ≡ Some u → AreGood u
  update-good sender (Add k) t u s h e = subst AreGood (same_Some t u e) h
  update-good sender (Remove i) t u s h e = subst AreGood (same_Some t u e) h
  update-good sender (ContextExtensions es) t u s h e = subst AreGood (same_Some t u e) h
  update-good sender (PreSharedKey es) t u s h e = subst AreGood (same_Some t u e) h
  update-good sender (ReInit es) t u s h e = subst AreGood (same_Some t u e) h
  update-good sender (ExternalInit es) t u s h e = subst AreGood (same_Some t u e) h
  update-good sender (Update x) t u s h e = member-good (member_index sender) x t u s h e

  remove-good : (p : Proposal) (t u : Tree) → AreGood t → after_remove p t ≡ Some u → AreGood u
  remove-good (Add k) t u h e = subst AreGood (same_Some t u e) h
  remove-good (Update x) t u h e = subst AreGood (same_Some t u e) h
  remove-good (ContextExtensions es) t u h e = subst AreGood (same_Some t u e) h
  remove-good (PreSharedKey es) t u h e = subst AreGood (same_Some t u e) h
  remove-good (ReInit es) t u h e = subst AreGood (same_Some t u e) h
  remove-good (ExternalInit es) t u h e = subst AreGood (same_Some t u e) h
  remove-good (Remove i) t u h e =
      subst AreGood (cond_some (is_some (leaf_at 0 t i)) (remove t i) u e).1 (good-truncate (blank_path (put_leaf 0 t i None) i) (good-replaced t i None tt h))

  updates-good : (items : List ListItem) (t u : Tree) → BringGood items → AreGood t → after_updates items t ≡ Some u → AreGood u
  unfolding after_updates
  updates-good [] t u s h e = subst AreGood (same_Some t u e) h
  updates-good (x ∷ xs) t u s h e =
      option_and_then_some (after_updates xs) (after_update x.sender x.proposal t) u e
      (λ v a b. updates-good xs v u (All-tail (λ (y : ListItem). BringsGood y.proposal) x xs s)
      (update-good x.sender x.proposal t v (All-head (λ (y : ListItem). BringsGood y.proposal) x xs s) h a) b)

  removes-good : (items : List ListItem) (t u : Tree) → AreGood t → after_removes items t ≡ Some u → AreGood u
  unfolding after_removes
  removes-good [] t u h e = subst AreGood (same_Some t u e) h
  removes-good (x ∷ xs) t u h e =
      option_and_then_some (after_removes xs) (after_remove x.proposal t) u e (λ v a b. removes-good xs v u (remove-good x.proposal t v h a) b)

  member-brought : (p : Proposal) (xs : List LeafNode) → BringsGood p → All P xs → All P (added_to p xs)
  member-brought (Add k) xs s h = All-cons P k.leaf_node xs s h
  member-brought (Update x) xs s h = h
  member-brought (Remove i) xs s h = h
  member-brought (ContextExtensions es) xs s h = h
  member-brought (PreSharedKey es) xs s h = h
  member-brought (ReInit es) xs s h = h
  member-brought (ExternalInit es) xs s h = h

  members-brought : (items : List ListItem) → BringGood items → All P (new_members items)
  unfolding new_members
  members-brought [] s = All-nil P
  members-brought (x ∷ xs) s =
      member-brought x.proposal (new_members xs) (All-head (λ (y : ListItem). BringsGood y.proposal) x xs s)
      (members-brought xs (All-tail (λ (y : ListItem). BringsGood y.proposal) x xs s))

  adds-good : (xs : List LeafNode) (t : Tree) (g : AppliedTree) → All P xs → AreGood t → after_adds xs t ≡ Some g → AreGood g.tree
  unfolding after_adds
  adds-good [] t g s h e = subst (λ (v : AppliedTree). AreGood v.tree) (same_Some (applied_tree t []) g e) h
  adds-good (x ∷ xs) t g s h e =
      let m = mapped (added_leaf t) (after_adds xs (add t x)) g
      (unless (is_overfilled_above 0 (extended_if_full (first_blank_leaf 0 t) t) (added_leaf t)) (option_map (after_leaf (added_leaf t)) (after_adds xs (add t x))) g e) in
      subst AreGood m.2 (adds-good xs (add t x) m.0 (All-tail P x xs s) (good-add t x (All-head P x xs s) h) m.1)

  outcome-good : (items : List ListItem) (t : Tree) (g : AppliedTree) → BringGood items → AreGood t → outcome items t ≡ Some g → AreGood g.tree
  unfolding outcome with_members
  outcome-good items t g s h e =
      option_and_then_some (with_members (new_members items)) (without_adds items t) g e
      (λ w a b. option_and_then_some (after_removes items) (after_updates items t) w a
      (λ v c d. adds-good (new_members items) w g (members-brought items s) (removes-good items v w (updates-good items t v s h c) d)
      (where_so (nat_le (member_count w + length (new_members items)) leaf_limit) (after_adds (new_members items) w) g b)))

  -- ---- the tree in which a committer has its leaf

  committer_tree-good : (committer : Sender) (g : AppliedTree) (q : CommitterTree) → AreGood g.tree → committer_tree committer g ≡ Some q → AreGood q.applied_tree.tree
  committer_tree-good (senders.Member i) g q h e = subst (λ (p : CommitterTree). AreGood p.applied_tree.tree) (same_Some (record { applied_tree = g; leaf = i }) q e) h
  committer_tree-good (senders.External k) g q h e = absurd (none-some q e)
  committer_tree-good senders.NewMemberProposal g q h e = absurd (none-some q e)
  committer_tree-good senders.NewMemberCommit g q h e =
      subst (λ (p : CommitterTree). AreGood p.applied_tree.tree) (cond_some (nat_lt (member_count g.tree) leaf_limit) (seated g) q e).1
      (good-extended (first_blank_leaf 0 g.tree) g.tree h)

  -- ---- a path

  -- of its leaf node and of the keys of its nodes
  abbrev pub IsGoodPath : Option UpdatePath → Type 0
  IsGoodPath None = Unit {0}
  IsGoodPath (Some path) = P path.leaf_node × All K (node_keys path)

  -- what is handed down
  record IsSupplied (n : PathStep) : Type 0 where
    parent : OfParent n.parent
    keys : All K n.keys

  module _ (H : List ℕ → List ℕ) where
    made-supplied : (key hash : List ℕ) (keys : List (List ℕ)) (o : Option (List ℕ)) → K key → All K keys
        → (n : PathStep) → option_map (λ h. record { parent = Some (path_parent key hash); hash = h; keys = keys }) o ≡ Some n → IsSupplied n
    made-supplied key hash keys None k ks n e = absurd (none-some n e)
    made-supplied key hash keys (Some h) k ks n e =
        subst IsSupplied (same_Some (record { parent = Some (path_parent key hash); hash = h; keys = keys }) n e) (record { parent = k; keys = ks })

    step-supplied : (node_indices : List ℕ) (first : ℕ) (away : Tree) (hash : List ℕ) (keys : List (List ℕ)) (n : PathStep) → All K keys
        → path_step H node_indices first away hash keys ≡ Some n → IsSupplied n
    step-supplied [] first away hash keys n ks e =
        subst IsSupplied (same_Some (record { parent = None; hash = hash; keys = keys }) n e) (record { parent = tt; keys = ks })
    step-supplied (p ∷ ps) first away hash [] n ks e = absurd (none-some n e)
    step-supplied (p ∷ ps) first away hash (key ∷ keys) n ks e =
        made-supplied key hash keys (path_hash H (path_parent key hash) first away) (All-head K key keys ks) (All-tail K key keys ks) n e

    rebuilt : (made : Tree → Tree) (o : Option Tree) → ((u : Tree) → AreGood u → AreGood (made u)) → ((u : Tree) → o ≡ Some u → AreGood u)
        → (v : Tree) → option_map made o ≡ Some v → AreGood v
    rebuilt made None up each v e = absurd (none-some v e)
    rebuilt made (Some u) up each v e = subst AreGood (same_Some (made u) v e) (up u (each u refl))

    module _ (leaves i : ℕ) (x : LeafNode) (s : P x) where
      merged-good : (first : ℕ) (t : Tree) (hash : List ℕ) (keys : List (List ℕ)) (u : Tree) → All K keys → AreGood t
          → merged_from H leaves first t i x hash keys ≡ Some u → AreGood u
      merged-good first (leaf y) hash (_ ∷ _) u ks h e = absurd (none-some u e)
      merged-good first (leaf y) hash [] u ks h e = subst AreGood (same_Some (leaf (Some x)) u e) s
      merged-good first (branch a p b) hash keys u ks h e =
          go (nat_lt i (first + leaf_count a)) (λ m g v. merged-good first a m g v) (λ m g v. merged-good (first + leaf_count a) b m g v) e
        where
          go : (c : Bool)
              → ((m : List ℕ) (g : List (List ℕ)) (v : Tree) → All K g → AreGood a → merged_from H leaves first a i x m g ≡ Some v → AreGood v)
              → ((m : List ℕ) (g : List (List ℕ)) (v : Tree) → All K g → AreGood b → merged_from H leaves (first + leaf_count a) b i x m g ≡ Some v → AreGood v)
              → (if c
              then option_and_then (λ n. option_map (λ t. branch t n.parent b) (merged_from H leaves first a i x n.hash n.keys)) (path_step_at H leaves (first + leaf_count a) b hash keys)
              else option_and_then (λ n. option_map (λ t. branch a n.parent t) (merged_from H leaves (first + leaf_count a) b i x n.hash n.keys)) (path_step_at H leaves first a hash keys)) ≡ Some u
              → AreGood u
          go true in_left in_right e =
              option_and_then_some (λ n. option_map (λ t. branch t n.parent b) (merged_from H leaves first a i x n.hash n.keys)) (path_step_at H leaves (first + leaf_count a) b hash keys) u e
              (λ n f g.
              let k = step-supplied (resolution leaves (first + leaf_count a) b) (first + leaf_count a) b hash keys n ks f in
              rebuilt (λ t. branch t n.parent b) (merged_from H leaves first a i x n.hash n.keys) (λ v m. (m, k.parent, h.2))
              (λ v q. in_left n.hash n.keys v k.keys h.0 q) u g)
          go false in_left in_right e =
              option_and_then_some (λ n. option_map (λ t. branch a n.parent t) (merged_from H leaves (first + leaf_count a) b i x n.hash n.keys)) (path_step_at H leaves first a hash keys) u e
              (λ n f g.
              let k = step-supplied (resolution leaves first a) first a hash keys n ks f in
              rebuilt (λ t. branch a n.parent t) (merged_from H leaves (first + leaf_count a) b i x n.hash n.keys) (λ v m. (h.0, k.parent, m))
              (λ v q. in_right n.hash n.keys v k.keys h.2 q) u g)

    resulting-good : (g : AppliedTree) (i : ℕ) (path : Option UpdatePath) (u : Tree) → IsGoodPath path → AreGood g.tree → resulting H g i path ≡ Some u → AreGood u
    resulting-good g i None u s h e = subst AreGood (same_Some g.tree u e) h
    resulting-good g i (Some path) u s h e =
        merged-good (leaf_count g.tree) i path.leaf_node s.0 0 g.tree [] (reverse (node_keys path)) u (All-reverse K (node_keys path) s.1) h e

    -- after a commit
    pub changed-good : (committer : Sender) (path : Option UpdatePath) (items : List ListItem) (t u : Tree) → BringGood items → IsGoodPath path → AreGood t
        → changed_tree H committer path (outcome items t) ≡ Some u → AreGood u
    changed-good committer path items t u brings s h e =
        option_and_then_some (λ (q : CommitterTree). resulting H q.applied_tree q.leaf path) (option_and_then (committer_tree committer) (outcome items t)) u e
        (λ q a b. option_and_then_some (committer_tree committer) (outcome items t) q a
        (λ g c d. resulting-good q.applied_tree q.leaf path u s (committer_tree-good committer g q (outcome-good items t g brings h c) d) b))
