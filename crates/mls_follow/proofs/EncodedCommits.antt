-- What of a message has a spelling where the message has one, and what follows for a commit.
use Rattle.std.proofs.Common.{◌≡◌, ℕ, ◌+◌, ◌<◌, ◌≤◌, List, [], ◌∷◌, length, map, Bool, true, false, Option, Some, None, IsSome, refl, subst, inl, inr, arith}
use Rattle.std.specs.Prelude.{if◌then◌else◌, nat_le, nat_lt, is_some, All, option_map, option_and_then}
use Rattle.std.specs.Int.{w8, w16, w32}
use Rattle.std.specs.Str.{bytes_eq}
use Rattle.std.proofs.lemmas.Bool.{cases_lt}
use Rattle.std.proofs.lemmas.Bool.Decides.{nat_tests}
use Rattle.std.proofs.lemmas.Option.{none-some, same_Some, cond_some, option_and_then_some}
use Rattle.std.proofs.lemmas.List.Elements.{All-nil, All-cons, All-head, All-tail}
use Rattle.mls_wire.specs.Encoding.{◌⊕◌, number, vector, list, optional}
use Rattle.mls_nodes.specs.Extension.{extension}
use Rattle.mls_nodes.specs.Layout as layout
use Rattle.mls_nodes.specs.declared.leaf.LeafNode.{LeafNode}
use Rattle.mls_msgs.specs.Layout.{key_package, proposal, proposal_or_ref, path_node, ciphertext, update_path, commit}
use Rattle.mls_msgs.specs.declared.commit.Commit.{Commit}
use Rattle.mls_msgs.specs.declared.commit.PathNode.{PathNode}
use Rattle.mls_msgs.specs.declared.commit.UpdatePath.{UpdatePath}
use Rattle.mls_msgs.specs.declared.key_package.KeyPackage.{KeyPackage}
use Rattle.mls_msgs.specs.declared.framed_content.Sender.{Sender}
use Rattle.mls_msgs.specs.declared.framed_content.Sender.TheVariants.{Member, External, NewMemberProposal, NewMemberCommit}
use Rattle.mls_msgs.specs.declared.proposal.Proposal.{Proposal}
use Rattle.mls_msgs.specs.declared.proposal.Proposal.TheVariants.{Add, Update, Remove, ContextExtensions, PreSharedKey, ReInit, ExternalInit}
use Rattle.mls_msgs.specs.declared.proposal.ProposalOrRef.{ProposalOrRef}
use Rattle.mls_msgs.specs.declared.proposal.ProposalOrRef.TheVariants as entries
use Rattle.mls_tree.specs.Tree.{Tree, height, leaf_count, member_count, leaf_at}
use Rattle.mls_tree.specs.RatchetTree.{HasShape}
use Rattle.mls_tree.specs.BlankLeaves.{first_blank_leaf}
use Rattle.mls_tree.specs.TreeOperations.{put_leaf, blank_path, update, remove, with_unmerged, is_overfilled_above, add_unmerged, add_at, add, added_leaf, extended_if_full, number_or, blank_tree, seat}
use Rattle.mls_tree.proofs.Kept.{height-change_above, IsPerfect-change_above, height-put_leaf, IsPerfect-put_leaf, HasShape-extend, HasShape-truncate}
use Rattle.mls_tree.proofs.Numbers.{leaves_at-pow, leaves_at-le, leaves_at-low}
use Rattle.mls_tree.proofs.Trees.{leaf_count-perfect, leaf_count-positive}
use Rattle.mls_apply.specs.declared.list_item.ListItem.{ListItem}
use Rattle.mls_apply.specs.declared.list_item.KnownProposal.{KnownProposal}
use Rattle.mls_apply.specs.ResolvedList.{find_known, item_of, entry_item, with_first, resolved}
use Rattle.mls_nodes.specs.Limits.{leaf_limit}
use Rattle.mls_apply.specs.Senders.{member_index}
use Rattle.mls_apply.specs.JoinRules.{joiner_item, join_items}
use Rattle.mls_apply.specs.AppliedList.{AppliedTree, updated_at, after_update, after_updates, after_remove, after_removes, added_to, new_members, after_leaf, after_adds, with_members, outcome}
use Rattle.mls_apply.specs.PathRules.{node_keys}
use Rattle.mls_apply.proofs.Adding.{blank_inside, member_count-add}
use Rattle.mls_apply.proofs.LeavesAreValid.{member_count-full}
use Rattle.mls_apply.proofs.Expected.{AreKeys}
use Rattle.mls_apply.proofs.Encodings.{left_encoded, right_encoded}
use Rattle.mls_follow.specs.MessageRules.{CommitterTree, seated, committer_tree}
use Rattle.mls_follow.proofs.Encodings.{number_encoded, list_each}
use Rattle.mls_follow.proofs.EncodedTrees.{IsEncoded, IsEncoded-update, IsEncoded-remove, IsEncoded-applied_tree, IsEncoded-add}

-- ---- a proposal

-- the leaf of an added or updated member
key_package_leaf : (k : KeyPackage) → IsSome (key_package k) → IsSome (layout.leaf k.leaf_node)
unfolding key_package
key_package_leaf k h =
    let a = right_encoded (number w16 k.version) (number w16 k.cipher_suite ⊕ vector k.init_key ⊕ layout.leaf k.leaf_node ⊕ list extension k.extensions ⊕ vector k.signature) h in
    let b = right_encoded (number w16 k.cipher_suite) (vector k.init_key ⊕ layout.leaf k.leaf_node ⊕ list extension k.extensions ⊕ vector k.signature) a in
    let c = right_encoded (vector k.init_key) (layout.leaf k.leaf_node ⊕ list extension k.extensions ⊕ vector k.signature) b in
    left_encoded (layout.leaf k.leaf_node) (list extension k.extensions ⊕ vector k.signature) c

-- the leaf that a proposal brings, if it brings one
abbrev IsLeafEncoded : Proposal → Type 0
IsLeafEncoded (Add k) = IsSome (layout.leaf k.leaf_node)
IsLeafEncoded (Update x) = IsSome (layout.leaf x)
IsLeafEncoded (Remove i) = Unit {0}
IsLeafEncoded (ContextExtensions es) = Unit {0}
IsLeafEncoded (PreSharedKey es) = Unit {0}
IsLeafEncoded (ReInit es) = Unit {0}
IsLeafEncoded (ExternalInit es) = Unit {0}

leaf_of_proposal : (p : Proposal) → IsSome (proposal p) → IsLeafEncoded p
unfolding proposal
leaf_of_proposal (Add k) h = key_package_leaf k (right_encoded (number w16 1) (key_package k) h)
leaf_of_proposal (Update x) h = right_encoded (number w16 2) (layout.leaf x) h
leaf_of_proposal (Remove i) h = tt
leaf_of_proposal (ContextExtensions es) h = tt
leaf_of_proposal (PreSharedKey es) h = tt
leaf_of_proposal (ReInit es) h = tt
leaf_of_proposal (ExternalInit es) h = tt

-- the items of a list
abbrev pub AreEncoded : List ListItem → Type 0
AreEncoded items = All (λ x. IsSome (proposal x.proposal)) items

entry_proposal : (p : Proposal) → IsSome (proposal_or_ref (entries.Proposal p)) → IsSome (proposal p)
unfolding proposal_or_ref
entry_proposal p h = right_encoded (number w8 1) (proposal p) h

found_known : (known : List KnownProposal) (reference : List ℕ) (x : ListItem) → All (λ k. IsSome (proposal k.proposal)) known
    → option_map item_of (find_known known reference) ≡ Some x → IsSome (proposal x.proposal)
found_known [] reference x all e = absurd (none-some x e)
found_known (k ∷ ks) reference x all e =
    go (bytes_eq k.reference reference) (λ f. found_known ks reference x (All-tail (λ k. IsSome (proposal k.proposal)) k ks all) f) e
  where
    go : (b : Bool) → (option_map item_of (find_known ks reference) ≡ Some x → IsSome (proposal x.proposal))
        → option_map item_of (if b then Some k else find_known ks reference) ≡ Some x → IsSome (proposal x.proposal)
    go true later e = subst (λ (y : ListItem). IsSome (proposal y.proposal)) (same_Some (item_of k) x e) (All-head (λ k. IsSome (proposal k.proposal)) k ks all)
    go false later e = later e

item_encoded : (committer : Sender) (known : List KnownProposal) (entry : ProposalOrRef) (x : ListItem) → All (λ k. IsSome (proposal k.proposal)) known
    → IsSome (proposal_or_ref entry) → entry_item committer known entry ≡ Some x → IsSome (proposal x.proposal)
item_encoded committer known (entries.Proposal p) x all h e =
    subst (λ (y : ListItem). IsSome (proposal y.proposal)) (same_Some (record { sender = committer; proposal = p }) x e) (entry_proposal p h)
item_encoded committer known (entries.Reference reference) x all h e = found_known known reference x all e

pub resolved_encoded : (committer : Sender) (known : List KnownProposal) (es : List ProposalOrRef) (items : List ListItem) → All (λ k. IsSome (proposal k.proposal)) known
    → All (λ e. IsSome (proposal_or_ref e)) es → resolved committer known es ≡ Some items → AreEncoded items
resolved_encoded committer known [] items all each e = subst AreEncoded (same_Some [] items e) (All-nil (λ x. IsSome (proposal x.proposal)))
resolved_encoded committer known (entry ∷ es) items all each e =
    go (entry_item committer known entry) (resolved committer known es)
    (λ x f. item_encoded committer known entry x all (All-head (λ e. IsSome (proposal_or_ref e)) entry es each) f)
    (λ xs f. resolved_encoded committer known es xs all (All-tail (λ e. IsSome (proposal_or_ref e)) entry es each) f) e
  where
    go : (o : Option ListItem) (p : Option (List ListItem)) → ((x : ListItem) → o ≡ Some x → IsSome (proposal x.proposal)) → ((xs : List ListItem) → p ≡ Some xs → AreEncoded xs)
        → with_first o p ≡ Some items → AreEncoded items
    go None p one all e = absurd (none-some items e)
    go (Some x) None one all e = absurd (none-some items e)
    go (Some x) (Some xs) one all e =
        subst AreEncoded (same_Some (x ∷ xs) items e) (All-cons (λ x. IsSome (proposal x.proposal)) x xs (one x refl) (all xs refl))

pub join_encoded : (es : List ProposalOrRef) → All (λ e. IsSome (proposal_or_ref e)) es → AreEncoded (join_items es)
join_encoded [] each = All-nil (λ x. IsSome (proposal x.proposal))
join_encoded (entries.Proposal p ∷ es) each =
    All-cons (λ x. IsSome (proposal x.proposal)) (joiner_item p) (join_items es)
    (entry_proposal p (All-head (λ e. IsSome (proposal_or_ref e)) (entries.Proposal p) es each))
    (join_encoded es (All-tail (λ e. IsSome (proposal_or_ref e)) (entries.Proposal p) es each))
join_encoded (entries.Reference reference ∷ es) each =
    join_encoded es (All-tail (λ e. IsSome (proposal_or_ref e)) (entries.Reference reference) es each)

-- ---- the tree after a list

-- a tree of the shape of every tree, whose nodes have spellings
pub record IsFit (t : Tree) : Type 0 where
  pub shape : HasShape t
  pub encoded : IsEncoded t

HasShape-replaced : (f : ℕ) (t : Tree) (i : ℕ) (x : Option LeafNode) → HasShape t → HasShape (blank_path (put_leaf 0 t i x) i)
HasShape-replaced f t i x s = record {
  perfect = IsPerfect-change_above (λ _. None) 0 (put_leaf 0 t i x) i (IsPerfect-put_leaf 0 t i x s.perfect);
  low = let a = height-change_above (λ _. None) 0 (put_leaf 0 t i x) i in let b = height-put_leaf 0 t i x in omega (arith, s.low);
}

member_fit : (o : Option ℕ) (x : LeafNode) (t u : Tree) → IsSome (layout.leaf x) → IsFit t → updated_at o x t ≡ Some u → IsFit u
member_fit None x t u s h e = absurd (none-some u e)
member_fit (Some i) x t u s h e =
    subst IsFit (cond_some (is_some (leaf_at 0 t i)) (update t i x) u e).1 (record {
      shape = HasShape-replaced 0 t i (Some x) h.shape;
      encoded = IsEncoded-update t i x s h.encoded;
    })

update_fit : (sender : Sender) (p : Proposal) (t u : Tree) → IsLeafEncoded p → IsFit t → after_update sender p t ≡ Some u → IsFit u
update_fit sender (Add k) t u s h e = subst IsFit (same_Some t u e) h
update_fit sender (Remove i) t u s h e = subst IsFit (same_Some t u e) h
update_fit sender (ContextExtensions es) t u s h e = subst IsFit (same_Some t u e) h
update_fit sender (PreSharedKey es) t u s h e = subst IsFit (same_Some t u e) h
update_fit sender (ReInit es) t u s h e = subst IsFit (same_Some t u e) h
update_fit sender (ExternalInit es) t u s h e = subst IsFit (same_Some t u e) h
update_fit sender (Update x) t u s h e = member_fit (member_index sender) x t u s h e

remove_fit : (p : Proposal) (t u : Tree) → IsFit t → after_remove p t ≡ Some u → IsFit u
remove_fit (Add k) t u h e = subst IsFit (same_Some t u e) h
remove_fit (Update x) t u h e = subst IsFit (same_Some t u e) h
remove_fit (ContextExtensions es) t u h e = subst IsFit (same_Some t u e) h
remove_fit (PreSharedKey es) t u h e = subst IsFit (same_Some t u e) h
remove_fit (ReInit es) t u h e = subst IsFit (same_Some t u e) h
remove_fit (ExternalInit es) t u h e = subst IsFit (same_Some t u e) h
remove_fit (Remove i) t u h e =
    subst IsFit (cond_some (is_some (leaf_at 0 t i)) (remove t i) u e).1 (record {
      shape = HasShape-truncate (blank_path (put_leaf 0 t i None) i) (HasShape-replaced 0 t i None h.shape);
      encoded = IsEncoded-remove t i h.encoded;
    })

updates_fit : (items : List ListItem) (t u : Tree) → AreEncoded items → IsFit t → after_updates items t ≡ Some u → IsFit u
unfolding after_updates
updates_fit [] t u all h e = subst IsFit (same_Some t u e) h
updates_fit (x ∷ xs) t u all h e =
    option_and_then_some (after_updates xs) (after_update x.sender x.proposal t) u e
    (λ v a b. updates_fit xs v u (All-tail (λ x. IsSome (proposal x.proposal)) x xs all)
    (update_fit x.sender x.proposal t v (leaf_of_proposal x.proposal (All-head (λ x. IsSome (proposal x.proposal)) x xs all)) h a) b)

removes_fit : (items : List ListItem) (t u : Tree) → IsFit t → after_removes items t ≡ Some u → IsFit u
unfolding after_removes
removes_fit [] t u h e = subst IsFit (same_Some t u e) h
removes_fit (x ∷ xs) t u h e =
    option_and_then_some (after_removes xs) (after_remove x.proposal t) u e (λ v a b. removes_fit xs v u (remove_fit x.proposal t v h a) b)

-- the leaves that are added
members_encoded : (items : List ListItem) → AreEncoded items → All (λ x. IsSome (layout.leaf x)) (new_members items)
unfolding new_members
members_encoded [] all = All-nil (λ x. IsSome (layout.leaf x))
members_encoded (x ∷ xs) all =
    go x.proposal (leaf_of_proposal x.proposal (All-head (λ x. IsSome (proposal x.proposal)) x xs all)) (members_encoded xs (All-tail (λ x. IsSome (proposal x.proposal)) x xs all))
  where
    go : (p : Proposal) → IsLeafEncoded p → All (λ x. IsSome (layout.leaf x)) (new_members xs) → All (λ x. IsSome (layout.leaf x)) (added_to p (new_members xs))
    go (Add k) s h = All-cons (λ x. IsSome (layout.leaf x)) k.leaf_node (new_members xs) s h
    go (Update y) s h = h
    go (Remove i) s h = h
    go (ContextExtensions es) s h = h
    go (PreSharedKey es) s h = h
    go (ReInit es) s h = h
    go (ExternalInit es) s h = h

-- a tree that has to grow is not as large as a tree may be
low_enough : (t : Tree) → HasShape t → first_blank_leaf 0 t ≡ None → member_count t + 1 ≤ leaf_limit → height t < 20
low_enough t s full capacity =
    elim (cases_lt (height t) 20) [
      | inl lt ↦ lt
      | inr ge ↦ (let large = leaves_at-le 20 (height t) ge in
          absurd (omega (arith, large, leaves_at-pow 20, leaf_count-perfect t s.perfect, member_count-full 0 t full)))
    ]

-- an added member's leaf is one of the tree's
pub added_inside : (t : Tree) (o : Option ℕ) → first_blank_leaf 0 t ≡ o → number_or (leaf_count t) o < leaf_count (extended_if_full o t)
added_inside t None e = omega (arith, leaf_count-positive (blank_tree (height t)))
added_inside t (Some j) e = blank_inside t j e

grown_shape : (t : Tree) (o : Option ℕ) → first_blank_leaf 0 t ≡ o → HasShape t → member_count t + 1 ≤ leaf_limit → HasShape (extended_if_full o t)
grown_shape t None e s capacity = HasShape-extend t s (low_enough t s e capacity)
grown_shape t (Some j) e s capacity = s

HasShape-add_at : (u : Tree) (j : ℕ) (x : LeafNode) → HasShape u → HasShape (add_at u j x)
HasShape-add_at u j x s = record {
  perfect = IsPerfect-put_leaf 0 (add_unmerged u j) j (Some x) (IsPerfect-change_above (with_unmerged j) 0 u j s.perfect);
  low = let a = height-put_leaf 0 (add_unmerged u j) j (Some x) in let b = height-change_above (with_unmerged j) 0 u j in omega (arith, s.low);
}

add_fit : (t : Tree) (x : LeafNode) → IsSome (layout.leaf x) → member_count t + 1 ≤ leaf_limit
    → is_overfilled_above 0 (extended_if_full (first_blank_leaf 0 t) t) (added_leaf t) ≡ false → IsFit t → IsFit (add t x)
add_fit t x s capacity free h =
    let applied_tree = grown_shape t (first_blank_leaf 0 t) refl h.shape capacity in
    let low = leaves_at-low (height (extended_if_full (first_blank_leaf 0 t) t)) applied_tree.low in
    let number = number_encoded w32 (added_leaf t) (omega (arith, added_inside t (first_blank_leaf 0 t) refl, low, leaf_count-perfect (extended_if_full (first_blank_leaf 0 t) t) applied_tree.perfect)) in
    record {
      shape = HasShape-add_at (extended_if_full (first_blank_leaf 0 t) t) (added_leaf t) x applied_tree;
      encoded = IsEncoded-add t x s number free h.encoded;
    }

after_leaf_tree : (j : ℕ) (o : Option AppliedTree) (g : AppliedTree) → ((v : AppliedTree) → o ≡ Some v → IsFit v.tree) → option_map (after_leaf j) o ≡ Some g → IsFit g.tree
after_leaf_tree j None g each e = absurd (none-some g e)
after_leaf_tree j (Some v) g each e = subst (λ (w : AppliedTree). IsFit w.tree) (same_Some (after_leaf j v) g e) (each v refl)

adds_fit : (xs : List LeafNode) (t : Tree) (g : AppliedTree) → All (λ x. IsSome (layout.leaf x)) xs → member_count t + length xs ≤ leaf_limit → IsFit t
    → after_adds xs t ≡ Some g → IsFit g.tree
unfolding after_adds
adds_fit [] t g all capacity h e = subst (λ (w : AppliedTree). IsFit w.tree) (same_Some (record { tree = t; added = [] }) g e) h
adds_fit (x ∷ xs) t g all capacity h e =
    let less : member_count (add t x) + length xs ≤ leaf_limit = omega (arith, member_count-add t x) in
    go (is_overfilled_above 0 (extended_if_full (first_blank_leaf 0 t) t) (added_leaf t)) refl
    (λ v fit q. adds_fit xs (add t x) v (All-tail (λ x. IsSome (layout.leaf x)) x xs all) less fit q) e
  where
    go : (b : Bool) → is_overfilled_above 0 (extended_if_full (first_blank_leaf 0 t) t) (added_leaf t) ≡ b
        → ((v : AppliedTree) → IsFit (add t x) → after_adds xs (add t x) ≡ Some v → IsFit v.tree)
        → (if b then None else option_map (after_leaf (added_leaf t)) (after_adds xs (add t x))) ≡ Some g → IsFit g.tree
    go true f others e = absurd (none-some g e)
    go false f others e =
        after_leaf_tree (added_leaf t) (after_adds xs (add t x)) g
        (λ v q. others v (add_fit t x (All-head (λ x. IsSome (layout.leaf x)) x xs all) (omega (arith, capacity)) f h) q) e

within : (b : Bool) (o : Option AppliedTree) (g : AppliedTree) → (if b then o else None) ≡ Some g → (b ≡ true) × (o ≡ Some g)
within true o g e = (refl, e)
within false o g e = absurd (none-some g e)

-- the tree after a list is fit
pub outcome_fit : (items : List ListItem) (t : Tree) (g : AppliedTree) → AreEncoded items → IsFit t → outcome items t ≡ Some g → IsFit g.tree
unfolding outcome with_members
outcome_fit items t g all h e =
    option_and_then_some (with_members (new_members items)) (option_and_then (after_removes items) (after_updates items t)) g e
    (λ w a b. option_and_then_some (after_removes items) (after_updates items t) w a
    (λ v c d.
    let capacity = within (nat_le (member_count w + length (new_members items)) leaf_limit) (after_adds (new_members items) w) g b in
    let few : member_count w + length (new_members items) ≤ leaf_limit = grind (arith, nat_tests) in
    adds_fit (new_members items) w g (members_encoded items all) few (removes_fit items v w (updates_fit items t v all h c) d) capacity.1))

-- the tree in which a committer has its leaf is fit
seat_fit : (t : Tree) → member_count t < leaf_limit → IsFit t → IsFit (seat t).tree
seat_fit t capacity h = record {
  shape = grown_shape t (first_blank_leaf 0 t) refl h.shape (omega (arith, capacity));
  encoded = IsEncoded-applied_tree t (first_blank_leaf 0 t) h.encoded;
}

pub committer_tree_fit : (committer : Sender) (g : AppliedTree) (q : CommitterTree) → committer_tree committer g ≡ Some q → IsFit g.tree → IsFit q.applied_tree.tree
committer_tree_fit (Member i) g q e h = subst (λ (p : CommitterTree). IsFit p.applied_tree.tree) (same_Some (record { applied_tree = g; leaf = i }) q e) h
committer_tree_fit (External k) g q e h = absurd (none-some q e)
committer_tree_fit NewMemberProposal g q e h = absurd (none-some q e)
committer_tree_fit NewMemberCommit g q e h =
    let parts = cond_some (nat_lt (member_count g.tree) leaf_limit) (seated g) q e in
    let few = parts.0 in
    let capacity : member_count g.tree < leaf_limit = grind (arith, nat_tests) in
    subst (λ (p : CommitterTree). IsFit p.applied_tree.tree) parts.1 (seat_fit g.tree capacity h)

-- ---- a commit

-- its entries, and the leaf and the keys of its path
pub commit_entries : (c : Commit) → IsSome (commit c) → All (λ e. IsSome (proposal_or_ref e)) c.proposals
unfolding commit
commit_entries c h = list_each proposal_or_ref c.proposals (left_encoded (list proposal_or_ref c.proposals) (optional update_path c.path) h)

path_of : (path : UpdatePath) → IsSome (optional update_path (Some path)) → IsSome (update_path path)
unfolding optional
path_of path h = right_encoded (Some (1 ∷ [])) (update_path path) h

pub commit_path : (c : Commit) (path : UpdatePath) → c.path ≡ Some path → IsSome (commit c) → IsSome (update_path path)
unfolding commit
commit_path c path e h =
    path_of path (subst (λ (o : Option UpdatePath). IsSome (optional update_path o)) e (right_encoded (list proposal_or_ref c.proposals) (optional update_path c.path) h))

pub path_leaf : (path : UpdatePath) → IsSome (update_path path) → IsSome (layout.leaf path.leaf_node)
unfolding update_path
path_leaf path h = left_encoded (layout.leaf path.leaf_node) (list path_node path.nodes) h

node_key : (n : PathNode) → IsSome (path_node n) → IsSome (vector n.encryption_key)
unfolding path_node
node_key n h = left_encoded (vector n.encryption_key) (list ciphertext n.ciphertexts) h

each_key : (nodes : List PathNode) → All (λ n. IsSome (path_node n)) nodes → AreKeys (map (λ n. n.encryption_key) nodes)
each_key [] all = All-nil (λ k. IsSome (vector k))
each_key (n ∷ ns) all =
    All-cons (λ k. IsSome (vector k)) n.encryption_key (map (λ n. n.encryption_key) ns) (node_key n (All-head (λ n. IsSome (path_node n)) n ns all))
    (each_key ns (All-tail (λ n. IsSome (path_node n)) n ns all))

pub path_keys : (path : UpdatePath) → IsSome (update_path path) → AreKeys (node_keys path)
unfolding update_path
path_keys path h = each_key path.nodes (list_each path_node path.nodes (right_encoded (layout.leaf path.leaf_node) (list path_node path.nodes) h))
