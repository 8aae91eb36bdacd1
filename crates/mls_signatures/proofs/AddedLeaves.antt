-- The leaves that the Adds of a commit's list add, in walks along the list and along these leaves.
use Rattle.std.proofs.Common.{◌≡◌, ◌≢◌, ◌∙◌, ℕ, zero, suc, ◌+◌, ◌<◌, ◌≤◌, List, [], ◌∷◌, ◌++◌, take, drop, get_or, length, Bool, true, false, cond, Option, Some, None, refl, sym, ap, subst, arith, append_assoc, append-nil, length-append}
use Rattle.std.specs.Prelude as every
use Rattle.std.specs.Prelude.{IfSome, if◌then◌else◌, option_map, option_and_then, slice_get, codes}
use Rattle.std.specs.Str.{bytes_eq}
use Rattle.std.specs.Borrow.{Bor}
use Rattle.std.specs.Ordering.{nat_cmp}
use Rattle.std.specs.Cmp.{unsigned_ties}
use Rattle.std.specs.BTreeMap.{BTreeMap, get, is_at, IsEmpty}
use Rattle.std.specs.Map.{lookup}
use Rattle.std.specs.List.{list_any}
use Rattle.std.specs.BTreeSet as set
use Rattle.std.proofs.lemmas.Bool.{eqb-true, eqb-false, false≢true}
use Rattle.std.proofs.lemmas.List.{take_more, take_all, drop_all, map-append}
use Rattle.std.proofs.lemmas.List.Elements.{All-cons, All-nil}
use Rattle.std.proofs.lemmas.Option.{same_Some, none-some}
use Rattle.mls_check.proofs.Elements.{and-left, and-right}
use Rattle.mls_wire.specs.Encoding.{◌⊕◌}
use Rattle.mls_nodes.specs.declared.context.GroupContext.{GroupContext}
use Rattle.mls_nodes.specs.declared.leaf.LeafNode.{LeafNode}
use Rattle.mls_nodes.specs.declared.leaf_source.LeafSource.{LeafSource}
use Rattle.mls_nodes.specs.declared.leaf_source.LeafSource.TheVariants as sources
use Rattle.mls_nodes.specs.LeafNodeTBS.{tbs_suffix, leaf_tbs}
use Rattle.mls_nodes.specs.Layout.{unsigned_leaf}
use Rattle.mls_tree.specs.Tree.{Tree, leaf_at}
use Rattle.mls_msgs.specs.declared.framed_content.Sender.{Sender}
use Rattle.mls_msgs.specs.declared.key_package.KeyPackage.{KeyPackage}
use Rattle.mls_msgs.specs.declared.proposal.Proposal.{Proposal}
use Rattle.mls_msgs.specs.declared.proposal.Proposal.TheVariants as proposals
use Rattle.mls_msgs.specs.declared.proposal.ProposalOrRef.{ProposalOrRef}
use Rattle.mls_msgs.specs.declared.proposal.ProposalOrRef.TheVariants as entries
use Rattle.mls_apply.specs.declared.list_item.KnownProposal.{KnownProposal}
use Rattle.mls_apply.specs.declared.list_item.ListItem.{ListItem}
use Rattle.mls_apply.specs.ResolvedList.{resolved, with_first, entry_item, item_of, find_known}
use Rattle.mls_apply.specs.AppliedList.{applied_tree, outcome, new_members, added_to}
use Rattle.mls_apply.specs.Outline.{IsApart, IsOutline}
use Rattle.mls_apply.specs.ProposalRules.{is_from_key_package}
use Rattle.mls_apply.specs.OutlineInternal.{AreAt}
use Rattle.mls_apply.proofs.Adding.{no_add, same_members}
use Rattle.mls_apply.proofs.Updating.{next_item}
use Rattle.mls_apply.proofs.AddedLeaves.{outcome_members}
use Rattle.mls_signatures.specs.AcceptedSignatures.{are_from_packages, is_from_package}
use Rattle.mls_signatures.specs.AddedLeaves.{HasPackageNames, IfFresh, IsPackageIfNamed, reference_of_entry, reference_at, leaf_of_add, leaf_in, NamesAre, ValuesAre, HasNames, indices, leaf_nodes, name_of, AreAdded, IsNamedBy, AreNamedBy, AreOfValues, AreNamedAlike, IsAfter, IsMapOf, added_signatures, IsRepeat, IsByValue, AppendsSignatures, IsListed, ListValues}
use Rattle.mls_signatures.specs.SignaturesToVerify.{labeled_signatures, leaf_signatures, package_signatures, non_blank_leaf_signatures, signatures_at, proposal_signatures, entry_signatures, entries_signatures}
use Rattle.mls_signatures.specs.declared.added_leaves.AddedLeaf.{AddedLeaf}
use Rattle.mls_signatures.specs.declared.added_leaves.NewLeaves.{NewLeaves}
use Rattle.mls_signatures.specs.declared.added_leaves.NewLeaves.TheVariants.{All, Fresh}
use Rattle.mls_signatures.specs.declared.signature_to_verify.SignatureToVerify.{SignatureToVerify}
use Rattle.mls_signatures.proofs.Repeats.{AllMet, all_front, all_behind, all_itself, appended-met, appended-still, met-appends, all-left, all-right, extends-none, extends-more, extends-skip}

-- ---- references

pub reference_there : (es : List ProposalOrRef) (i : ℕ) (e : ProposalOrRef) → i < length es → e ≡ get_or es i e → reference_of_entry e ≡ reference_at es i
reference_there [] i e low is = absurd (omega arith)
reference_there (x ∷ xs) zero e low is = ap reference_of_entry is
reference_there (x ∷ xs) (suc i) e low is = reference_there xs i e (omega arith) is

pub reference_past : (es : List ProposalOrRef) (i : ℕ) → length es ≤ i → None ≡ reference_at es i
reference_past [] i past = refl
reference_past (x ∷ xs) zero past = absurd (omega arith)
reference_past (x ∷ xs) (suc i) past = reference_past xs i (omega arith)

-- the leaf node that a reference stands for
abbrev leaf_known : List KnownProposal → List ℕ → Option LeafNode
leaf_known known r = option_and_then (λ (x : ListItem). leaf_of_add x.proposal) (option_map item_of (find_known known r))

entry_named : (committer : Sender) (known : List KnownProposal) (y : ProposalOrRef) (it : ListItem) (r : List ℕ) → entry_item committer known y ≡ Some it → reference_of_entry y ≡ Some r
    → leaf_known known r ≡ leaf_of_add it.proposal
entry_named committer known (entries.Proposal p) it r is at = absurd (none-some r at)
entry_named committer known (entries.Reference s) it r is at =
    ap (λ n. option_and_then (λ (z : ListItem). leaf_of_add z.proposal) (option_map item_of (find_known known n))) (sym (same_Some s r at))
    ∙ ap (option_and_then (λ (z : ListItem). leaf_of_add z.proposal)) is

names_more : (committer : Sender) (known : List KnownProposal) (x : ProposalOrRef) (xs : List ProposalOrRef) (it : ListItem) (more : List ListItem)
    → entry_item committer known x ≡ Some it → NamesAre (leaf_known known) xs more → NamesAre (leaf_known known) (x ∷ xs) (it ∷ more)
names_more committer known x xs it more is rest zero r at = entry_named committer known x it r is at
names_more committer known x xs it more is rest (suc i) r at = rest i r at

names_first : (committer : Sender) (known : List KnownProposal) (x : ProposalOrRef) (xs : List ProposalOrRef) (items : List ListItem) (o : Option ListItem) (p : Option (List ListItem))
    → entry_item committer known x ≡ o → ((more : List ListItem) → p ≡ Some more → NamesAre (leaf_known known) xs more) → with_first o p ≡ Some items
    → NamesAre (leaf_known known) (x ∷ xs) items
names_first committer known x xs items None p is rest f = absurd (none-some items f)
names_first committer known x xs items (Some it) None is rest f = absurd (none-some items f)
names_first committer known x xs items (Some it) (Some more) is rest f =
    subst (λ ys. NamesAre (leaf_known known) (x ∷ xs) ys) (same_Some (it ∷ more) items f) (names_more committer known x xs it more is (rest more refl))

names_resolved : (committer : Sender) (known : List KnownProposal) (es : List ProposalOrRef) (items : List ListItem)
    → resolved committer known es ≡ Some items → NamesAre (leaf_known known) es items
names_resolved committer known [] items e = λ i r at. absurd (none-some r at)
names_resolved committer known (x ∷ xs) items e =
    names_first committer known x xs items (entry_item committer known x) (resolved committer known xs) refl
    (λ more rest. names_resolved committer known xs more rest) e

pub resolved_names : (committer : Sender) (known : List KnownProposal) (es : List ProposalOrRef) (items : List ListItem)
    → resolved committer known es ≡ Some items → HasNames es items
resolved_names committer known es items e = record { leaf_named = leaf_known known; are = names_resolved committer known es items e }

-- pending Adds are from KeyPackages
package_of : (p : Proposal) (x : LeafNode) → is_from_package p ≡ true → leaf_of_add p ≡ Some x → is_from_key_package x.source ≡ true
package_of (proposals.Add k) x e at = subst (λ (y : LeafNode). is_from_key_package y.source ≡ true) (same_Some k.leaf_node x at) e
package_of (proposals.Update n) x e at = absurd (none-some x at)
package_of (proposals.Remove n) x e at = absurd (none-some x at)
package_of (proposals.ContextExtensions n) x e at = absurd (none-some x at)
package_of (proposals.PreSharedKey n) x e at = absurd (none-some x at)
package_of (proposals.ReInit n) x e at = absurd (none-some x at)
package_of (proposals.ExternalInit n) x e at = absurd (none-some x at)

package_found : (y : KnownProposal) (o : Option KnownProposal) (x : LeafNode) → is_from_package y.proposal ≡ true
    → (option_and_then (λ (z : ListItem). leaf_of_add z.proposal) (option_map item_of o) ≡ Some x → is_from_key_package x.source ≡ true)
    → (b : Bool) → option_and_then (λ (z : ListItem). leaf_of_add z.proposal) (option_map item_of (if b then Some y else o)) ≡ Some x → is_from_key_package x.source ≡ true
package_found y o x own later true e = package_of y.proposal x own e
package_found y o x own later false e = later e

packages_known : (known : List KnownProposal) → are_from_packages known ≡ true → (r : List ℕ) (x : LeafNode) → leaf_known known r ≡ Some x → is_from_key_package x.source ≡ true
packages_known [] all r x e = absurd (none-some x e)
packages_known (y ∷ ys) all r x e =
    package_found y (find_known ys r) x (and-left (is_from_package y.proposal) (are_from_packages ys) all)
    (λ f. packages_known ys (and-right (is_from_package y.proposal) (are_from_packages ys) all) r x f) (bytes_eq y.reference r) e

pub resolved_packages : (committer : Sender) (known : List KnownProposal) (es : List ProposalOrRef) (items : List ListItem)
    → resolved committer known es ≡ Some items → are_from_packages known ≡ true → HasPackageNames es items
resolved_packages committer known es items e all =
    record { leaf_named = leaf_known known; are = names_resolved committer known es items e; packages = packages_known known all }

-- if only the fresh leaves are listed
pub if_fresh : (which : NewLeaves) (P Q : Type 0) → (P → Q) → IfFresh which P → IfFresh which Q
if_fresh All P Q f h = tt
if_fresh Fresh P Q f h = f h

pub named_packages : (es : List ProposalOrRef) (items : List ListItem) (xs : List AddedLeaf) → (h : HasPackageNames es items) → AreNamedBy h.leaf_named xs → every.All IsPackageIfNamed xs
named_packages es items [] h n = All-nil IsPackageIfNamed
named_packages es items (x ∷ xs) h n =
    All-cons IsPackageIfNamed x xs (λ r e. h.packages r x.leaf.now (n.0 r e)) (named_packages es items xs h n.1)

-- ---- Adds by value

module _ (context : GroupContext) (committer : Sender) (known : List KnownProposal) (new : List SignatureToVerify) where
  value_listed : (p : Proposal) (x : LeafNode) → AllMet new (proposal_signatures context committer p) → leaf_of_add p ≡ Some x → IsListed context new x
  value_listed (proposals.Add k) x met at =
      let own = leaf_signatures context.cipher_suite context.group_id 0 k.leaf_node in
      subst (IsListed context new) (same_Some k.leaf_node x at) (met-appends new own (all-left new own (package_signatures context.cipher_suite k) met))
  value_listed (proposals.Update n) x met at = absurd (none-some x at)
  value_listed (proposals.Remove n) x met at = absurd (none-some x at)
  value_listed (proposals.ContextExtensions n) x met at = absurd (none-some x at)
  value_listed (proposals.PreSharedKey n) x met at = absurd (none-some x at)
  value_listed (proposals.ReInit n) x met at = absurd (none-some x at)
  value_listed (proposals.ExternalInit n) x met at = absurd (none-some x at)

  entry_listed : (y : ProposalOrRef) (it : ListItem) (x : LeafNode) → AllMet new (entry_signatures context committer y) → entry_item committer known y ≡ Some it
      → reference_of_entry y ≡ None → leaf_of_add it.proposal ≡ Some x → IsListed context new x
  entry_listed (entries.Proposal p) it x met is none at =
      value_listed p x met (ap (λ (z : ListItem). leaf_of_add z.proposal) (same_Some (record { sender = committer; proposal = p }) it is) ∙ at)
  entry_listed (entries.Reference r) it x met is none at = absurd (none-some r (sym none))

  values_more : (y : ProposalOrRef) (ys : List ProposalOrRef) (it : ListItem) (more : List ListItem) → AllMet new (entry_signatures context committer y)
      → entry_item committer known y ≡ Some it → ValuesAre (IsListed context new) ys more → ValuesAre (IsListed context new) (y ∷ ys) (it ∷ more)
  values_more y ys it more met is rest zero x none at = entry_listed y it x met is none at
  values_more y ys it more met is rest (suc i) x none at = rest i x none at

  values_first : (y : ProposalOrRef) (ys : List ProposalOrRef) (items : List ListItem) (o : Option ListItem) (p : Option (List ListItem))
      → AllMet new (entry_signatures context committer y) → entry_item committer known y ≡ o
      → ((more : List ListItem) → p ≡ Some more → ValuesAre (IsListed context new) ys more) → with_first o p ≡ Some items
      → ValuesAre (IsListed context new) (y ∷ ys) items
  values_first y ys items None p met is rest f = absurd (none-some items f)
  values_first y ys items (Some it) None met is rest f = absurd (none-some items f)
  values_first y ys items (Some it) (Some more) met is rest f =
      subst (λ zs. ValuesAre (IsListed context new) (y ∷ ys) zs) (same_Some (it ∷ more) items f) (values_more y ys it more met is (rest more refl))

  pub values_resolved : (es : List ProposalOrRef) (items : List ListItem) → AllMet new (entries_signatures context committer es) → resolved committer known es ≡ Some items
      → ValuesAre (IsListed context new) es items
  values_resolved [] items met e = λ i x none at. absurd (none-some x (ap (λ zs. leaf_in zs i) (same_Some [] items e) ∙ at))
  values_resolved (y ∷ ys) items met e =
      let own = entry_signatures context committer y in
      let others = entries_signatures context committer ys in
      values_first y ys items (entry_item committer known y) (resolved committer known ys) (all-left new own others met) refl
      (λ more rest. values_resolved ys more (all-right new own others met) rest) e

pub resolved_values : (context : GroupContext) (committer : Sender) (known : List KnownProposal) (es : List ProposalOrRef) (items : List ListItem)
    → resolved committer known es ≡ Some items → ListValues context committer es items
resolved_values context committer known es items e = λ old new appends.
    values_resolved context committer known new es items (appended-met old (entries_signatures context committer es) new appends) e

-- they stay
pub still_listed : (context : GroupContext) (old ws new : List SignatureToVerify) → AppendsSignatures old ws new → (x : LeafNode) → IsListed context old x → IsListed context new x
still_listed context old ws new e x listed =
    let own = leaf_signatures context.cipher_suite context.group_id 0 x in
    met-appends new own (appended-still old ws new own e (appended-met old own old listed))

pub values_map : (P Q : LeafNode → Type 0) (xs : List AddedLeaf) → ((x : LeafNode) → P x → Q x) → AreOfValues P xs → AreOfValues Q xs
values_map P Q [] f h = tt
values_map P Q (x ∷ xs) f h = (λ none. f x.leaf.now (h.0 none), values_map P Q xs f h.1)

-- ---- a walk along the list

leaf_in-at : (items : List ListItem) (i : ℕ) (x : ListItem) → i < length items → x ≡ get_or items i x → leaf_in items i ≡ leaf_of_add x.proposal
leaf_in-at [] i x low is = absurd (omega arith)
leaf_in-at (y ∷ ys) zero x low is = ap (λ (z : ListItem). leaf_of_add z.proposal) (sym is)
leaf_in-at (y ∷ ys) (suc i) x low is = leaf_in-at ys i x (omega arith) is

named_more : (F : List ℕ → Option LeafNode) (xs : List AddedLeaf) (y : AddedLeaf) → AreNamedBy F xs → IsNamedBy F y → AreNamedBy F (xs ++ y ∷ [])
named_more F [] y h n = (n, tt)
named_more F (x ∷ xs) y h n = (h.0, named_more F xs y h.1 n)

value_more : (P : LeafNode → Type 0) (xs : List AddedLeaf) (y : AddedLeaf) → AreOfValues P xs → (name_of y ≡ None → P y.leaf.now) → AreOfValues P (xs ++ y ∷ [])
value_more P [] y h n = (n, tt)
value_more P (x ∷ xs) y h n = (h.0, value_more P xs y h.1 n)

length_more : {X : Type 0} (xs : List X) (x : X) → length (xs ++ x ∷ []) ≡ length xs + 1
length_more [] x = refl
length_more (y ∷ ys) x = omega (arith, length_more ys x)

module _ (es : List ProposalOrRef) (items : List ListItem) (added : List ℕ) where
  -- where a walk stands, before the item at position i
  pub record Collecting (i position : ℕ) (leaves : List AddedLeaf) : Type 0 where
    pub at : position ≡ i
    pub node_indices : indices leaves ≡ take (length leaves) added
    pub nodes : leaf_nodes leaves ++ new_members (drop i items) ≡ new_members items
    pub named : (F : List ℕ → Option LeafNode) → NamesAre F es items → AreNamedBy F leaves
    pub values : (context : GroupContext) (qs : List SignatureToVerify) → ValuesAre (IsListed context qs) es items → AreOfValues (IsListed context qs) leaves

  pub collecting-start : Collecting 0 0 []
  collecting-start = record { at = refl; node_indices = refl; nodes = refl; named = λ F n. tt; values = λ context qs n. tt }

  module _ (enough : length added ≡ length (new_members items)) where
    counted : (i position : ℕ) (leaves : List AddedLeaf) → Collecting i position leaves
        → length leaves + length (new_members (drop i items)) ≡ length added
    counted i position leaves k = omega (arith, length-append (leaf_nodes leaves) (new_members (drop i items)), ap length k.nodes, length-nodes leaves, enough)
      where
        length-nodes : (xs : List AddedLeaf) → length (leaf_nodes xs) ≡ length xs
        length-nodes [] = refl
        length-nodes (x ∷ xs) = ap (λ n. suc n) (length-nodes xs)

    module _ (i position : ℕ) (leaves : List AddedLeaf) (k : Collecting i position leaves) (x : ListItem) (low : i < length items) (is : x ≡ get_or items i x) where
      pub collecting-other : ((p : KeyPackage) → x.proposal ≡ proposals.Add p → ⊥) → Collecting (i + 1) (position + 1) leaves
      unfolding new_members
      collecting-other none = record {
        at = ap (λ n. n + 1) k.at;
        node_indices = k.node_indices;
        nodes =
            ap (λ ms. leaf_nodes leaves ++ ms)
            (sym (ap new_members (next_item items i x low is) ∙ same_members x.proposal (new_members (drop (i + 1) items)) (no_add x.proposal none)))
            ∙ k.nodes;
        named = k.named;
        values = k.values;
      }

      module _ (p : KeyPackage) (e : x.proposal ≡ proposals.Add p) where
        here : new_members (drop i items) ≡ p.leaf_node ∷ new_members (drop (i + 1) items)
        unfolding new_members
        here = ap new_members (next_item items i x low is) ∙ ap (λ q. added_to q (new_members (drop (i + 1) items))) e

        -- there is a leaf index for it
        pub collecting-room : length leaves < length added
        collecting-room = omega (arith, counted i position leaves k, ap length here)

        -- it was collected
        pub collecting-member : (y : AddedLeaf) → y.index ≡ get_or added (length leaves) 0 → y.leaf.now ≡ p.leaf_node → name_of y ≡ reference_at es position
            → Collecting (i + 1) (position + 1) (leaves ++ y ∷ [])
        collecting-member y index node name = record {
          at = ap (λ n. n + 1) k.at;
          node_indices =
              map-append (λ (z : AddedLeaf). z.index) leaves (y ∷ [])
              ∙ (λ j. k.node_indices j ++ index j ∷ [])
              ∙ sym (take_more added (length leaves) 0 collecting-room)
              ∙ ap (λ n. take n added) (sym (length_more leaves y));
          nodes =
              ap (λ ms. ms ++ new_members (drop (i + 1) items)) (map-append (λ (z : AddedLeaf). z.leaf.now) leaves (y ∷ []))
              ∙ append_assoc (leaf_nodes leaves) (y.leaf.now ∷ []) (new_members (drop (i + 1) items))
              ∙ ap (λ ms. leaf_nodes leaves ++ ms) (ap (λ z. z ∷ new_members (drop (i + 1) items)) node ∙ sym here)
              ∙ k.nodes;
          named = λ F n.
              named_more F leaves y (k.named F n)
              (λ r f. n i r (ap (reference_at es) (sym k.at) ∙ sym name ∙ f) ∙ leaf_in-at items i x low is ∙ ap leaf_of_add e ∙ ap Some (sym node));
          values = λ context qs n.
              value_more (IsListed context qs) leaves y (k.values context qs n)
              (λ f.
              subst (IsListed context qs) (sym node)
              (n i p.leaf_node (ap (reference_at es) (sym k.at) ∙ sym name ∙ f) (leaf_in-at items i x low is ∙ ap leaf_of_add e)));
        }

    module _ (i position : ℕ) (leaves : List AddedLeaf) (k : Collecting i position leaves) (past : length items ≤ i) where
      nothing_left : new_members (drop i items) ≡ []
      unfolding new_members
      nothing_left = ap new_members (drop_all i items past)

      pub collected-indices : indices leaves ≡ added
      collected-indices = k.node_indices ∙ take_all (length leaves) added (omega (arith, counted i position leaves k, ap length nothing_left))

      pub collected-nodes : leaf_nodes leaves ≡ new_members items
      collected-nodes = sym (append-nil (leaf_nodes leaves)) ∙ ap (λ ms. leaf_nodes leaves ++ ms) (sym nothing_left) ∙ k.nodes

-- ---- the tree after the list

added_by_places : (t : Tree) (xs : List AddedLeaf) → AreAt t (leaf_nodes xs) (indices xs) → AreAdded t xs
added_by_places t [] a = tt
added_by_places t (x ∷ xs) a = (a.0, added_by_places t xs a.1)

pub places_count : (t : Tree) (xs : List LeafNode) (js : List ℕ) → AreAt t xs js → length js ≡ length xs
places_count t [] [] a = refl
places_count t [] (j ∷ js) a = absurd a
places_count t (x ∷ xs) [] a = absurd a
places_count t (x ∷ xs) (j ∷ js) a = ap (λ n. suc n) (places_count t xs js a.1)

module _ (items : List ListItem) (t u : Tree) (added : List ℕ) (o : IsOutline (outcome items t) added u) where
  pub outline_members : AreAt o.tree (new_members items) added
  outline_members = outcome_members items t (applied_tree o.tree added) o.is

  pub outline_count : length added ≡ length (new_members items)
  outline_count = places_count o.tree (new_members items) added outline_members

  pub outline_after : (xs : List AddedLeaf) → indices xs ≡ added → leaf_nodes xs ≡ new_members items → IsAfter o.tree u xs
  outline_after xs node_indices nodes = record {
    added = added_by_places o.tree xs (subst (λ js. AreAt o.tree (leaf_nodes xs) js) (sym node_indices) (subst (λ ms. AreAt o.tree ms added) (sym nodes) outline_members));
    others = λ j a. o.others j (subst (λ js. IsApart js j) node_indices a);
  }

-- ---- the added leaves by their leaf indices

pub at_place : (ys : List AddedLeaf) (k : ℕ) (y : AddedLeaf) → k < length ys → y ≡ get_or ys k y → slice_get ys k ≡ Some y
at_place [] k y low is = absurd (omega arith)
at_place (z ∷ zs) zero y low is = ap Some (sym is)
at_place (z ∷ zs) (suc k) y low is = at_place zs k y (omega arith) is

-- a leaf by the map, and by the tree
pub in_map : (t u : Tree) (m : BTreeMap ℕ (Bor LeafNode)) (j : ℕ) (x : Bor LeafNode) → IsMapOf t u m → Some x ≡ get nat_cmp m j → Some x.now ≡ leaf_at 0 t j
in_map t u m j x known e = sym (subst (λ o. IfSome o (λ (y : Bor LeafNode). leaf_at 0 t j ≡ Some y.now)) (sym e) (known.found j))

added-at : (t : Tree) (xs : List AddedLeaf) (i : ℕ) (x : AddedLeaf) → AreAdded t xs → i < length xs → x ≡ get_or xs i x → leaf_at 0 t x.index ≡ Some x.leaf.now
added-at t [] i x a low is = absurd (omega arith)
added-at t (y ∷ ys) zero x a low is = subst (λ (z : AddedLeaf). leaf_at 0 t z.index ≡ Some z.leaf.now) (sym is) a.0
added-at t (y ∷ ys) (suc i) x a low is = added-at t ys i x a.1 (omega arith) is

apart_more : (xs : List AddedLeaf) (y : AddedLeaf) (j : ℕ) → IsApart (indices xs) j → j ≢ y.index → IsApart (indices (xs ++ y ∷ [])) j
apart_more [] y j a away = (away, tt)
apart_more (x ∷ xs) y j a away = (a.0, apart_more xs y j a.1 away)

-- where a walk along the leaves stands, before position i
pub record Mapping (xs : List AddedLeaf) (i : ℕ) (m : BTreeMap ℕ (Bor LeafNode)) : Type 0 where
  pub found : (t : Tree) → AreAdded t xs → (j : ℕ) → IfSome (get nat_cmp m j) (λ x. leaf_at 0 t j ≡ Some x.now)
  pub others : (j : ℕ) → get nat_cmp m j ≡ None → IsApart (indices (take i xs)) j

pub mapping-start : (xs : List AddedLeaf) (m : BTreeMap ℕ (Bor LeafNode)) → IsEmpty m → Mapping xs 0 m
mapping-start xs m empty = record {
  found = λ t a j. subst (λ o. IfSome o (λ (x : Bor LeafNode). leaf_at 0 t j ≡ Some x.now)) (sym (ap (λ (es : List (ℕ × Bor LeafNode)). lookup (is_at (nat_cmp j)) es) empty)) tt;
  others = λ j e. tt;
}

at_key : (k q : ℕ) → is_at (nat_cmp k) q ≡ true → k ≡ q
at_key k q e = eqb-true k q (unsigned_ties k q ∙ e)

pub mapping-next : (xs : List AddedLeaf) (i : ℕ) (m n : BTreeMap ℕ (Bor LeafNode)) → Mapping xs i m → (x : AddedLeaf) → i < length xs → x ≡ get_or xs i x
    → ((q : ℕ) → get nat_cmp n q ≡ cond (is_at (nat_cmp x.index) q) (Some x.leaf) (get nat_cmp m q)) → Mapping xs (i + 1) n
mapping-next xs i m n known x low is update = record {
  found = λ t a j.
      subst (λ o. IfSome o (λ (y : Bor LeafNode). leaf_at 0 t j ≡ Some y.now)) (sym (update j)) (one t a j (is_at (nat_cmp x.index) j) refl);
  others = λ j e. apart j (is_at (nat_cmp x.index) j) refl (sym (update j) ∙ e);
}
  where
    one : (t : Tree) → AreAdded t xs → (j : ℕ) (b : Bool) → is_at (nat_cmp x.index) j ≡ b
        → IfSome (cond b (Some x.leaf) (get nat_cmp m j)) (λ (y : Bor LeafNode). leaf_at 0 t j ≡ Some y.now)
    one t a j true e = ap (λ k. leaf_at 0 t k) (sym (at_key x.index j e)) ∙ added-at t xs i x a low is
    one t a j false e = known.found t a j

    apart : (j : ℕ) (b : Bool) → is_at (nat_cmp x.index) j ≡ b → cond b (Some x.leaf) (get nat_cmp m j) ≡ None → IsApart (indices (take (i + 1) xs)) j
    apart j true e f = absurd (none-some x.leaf (sym f))
    apart j false e f =
        subst (λ ys. IsApart (indices ys) j) (sym (take_more xs i x low ∙ ap (λ (y : AddedLeaf). take i xs ++ y ∷ []) (sym is)))
        (apart_more (take i xs) x j (known.others j f)
        (λ same. eqb-false x.index j (unsigned_ties x.index j ∙ e) (sym same)))

pub mapping-all : (xs : List AddedLeaf) (i : ℕ) (m : BTreeMap ℕ (Bor LeafNode)) → Mapping xs i m → length xs ≤ i → (t u : Tree) → IsAfter t u xs → IsMapOf t u m
mapping-all xs i m known past t u after = record {
  found = known.found t after.added;
  others = λ j e. after.others j (subst (λ ys. IsApart (indices ys) j) (take_all i xs past) (known.others j e));
}

-- ---- signatures of leaves of the tree after the list

module _ (suite : ℕ) (group_id : List ℕ) where
  -- those of the leaf at an index
  abbrev pub of_index : Tree → ℕ → List SignatureToVerify
  of_index t j = non_blank_leaf_signatures suite group_id j (leaf_at 0 t j)

  pub signatures_at-both : (t : Tree) (js ks : List ℕ) → signatures_at suite group_id t (js ++ ks) ≡ signatures_at suite group_id t js ++ signatures_at suite group_id t ks
  signatures_at-both t [] ks = refl
  signatures_at-both t (j ∷ js) ks =
      ap (λ ws. of_index t j ++ ws) (signatures_at-both t js ks)
      ∙ sym (append_assoc (of_index t j) (signatures_at suite group_id t js) (signatures_at suite group_id t ks))

  signatures_at-more : (t : Tree) (js : List ℕ) (j : ℕ) → signatures_at suite group_id t (js ++ j ∷ []) ≡ signatures_at suite group_id t js ++ of_index t j
  signatures_at-more t js j = signatures_at-both t js (j ∷ []) ∙ ap (λ ws. signatures_at suite group_id t js ++ ws) (append-nil (of_index t j))

  -- where a walk along leaf indices stands, before position i
  pub record Walked (t : Tree) (old : List SignatureToVerify) (js : List ℕ) (i : ℕ) (list : List SignatureToVerify) (seen : set.BTreeSet ℕ) : Type 0 where
    pub same : AppendsSignatures old (signatures_at suite group_id t (take i js)) list
    pub met : (x : ℕ) → set.contains nat_cmp seen x ≡ true → AllMet (old ++ signatures_at suite group_id t (take i js)) (of_index t x)

  pub walked-start : (t : Tree) (old : List SignatureToVerify) (js : List ℕ) (seen : set.BTreeSet ℕ) → set.IsEmpty seen → Walked t old js 0 old seen
  walked-start t old js seen empty = record {
    same = extends-none old;
    met = λ x e. absurd (false≢true (sym (ap (λ (ks : List ℕ). list_any (is_at (nat_cmp x)) ks) empty) ∙ e));
  }

  module _ (t : Tree) (old : List SignatureToVerify) (js : List ℕ) (i : ℕ) (list : List SignatureToVerify) (seen : set.BTreeSet ℕ) (known : Walked t old js i list seen)
      (low : i < length js) where
    abbrev before : List SignatureToVerify
    before = signatures_at suite group_id t (take i js)

    more : signatures_at suite group_id t (take (i + 1) js) ≡ before ++ of_index t (get_or js i 0)
    more = ap (signatures_at suite group_id t) (take_more js i 0 low) ∙ signatures_at-more t (take i js) (get_or js i 0)

    module _ (next : set.BTreeSet ℕ) (update : (q : ℕ) → set.contains nat_cmp next q ≡ cond (is_at (nat_cmp (get_or js i 0)) q) true (set.contains nat_cmp seen q)) where
      met_next : (x : ℕ) → set.contains nat_cmp next x ≡ true → AllMet (old ++ (before ++ of_index t (get_or js i 0))) (of_index t x)
      met_next x e = go (is_at (nat_cmp (get_or js i 0)) x) refl (sym (update x) ∙ e)
        where
          go : (b : Bool) → is_at (nat_cmp (get_or js i 0)) x ≡ b → cond b true (set.contains nat_cmp seen x) ≡ true
              → AllMet (old ++ (before ++ of_index t (get_or js i 0))) (of_index t x)
          go true f g =
              subst (λ k. AllMet (old ++ (before ++ of_index t (get_or js i 0))) (of_index t k)) (at_key (get_or js i 0) x f)
              (all_behind old (before ++ of_index t (get_or js i 0)) (of_index t (get_or js i 0))
              (all_behind before (of_index t (get_or js i 0)) (of_index t (get_or js i 0)) (all_itself (of_index t (get_or js i 0)))))
          go false f g =
              subst (λ ws. AllMet ws (of_index t x)) (append_assoc old before (of_index t (get_or js i 0)))
              (all_front (old ++ before) (of_index t (get_or js i 0)) (of_index t x) (known.met x g))

      -- a new index
      pub walked-push : (new : List SignatureToVerify) → AppendsSignatures list (of_index t (get_or js i 0)) new → Walked t old js (i + 1) new next
      walked-push new e = record {
        same = subst (λ ws. AppendsSignatures old ws new) (sym more) (extends-more old before list known.same (of_index t (get_or js i 0)) new e);
        met = λ x c. subst (λ ws. AllMet (old ++ ws) (of_index t x)) (sym more) (met_next x c);
      }

      -- an index that came before
      pub walked-skip : set.contains nat_cmp seen (get_or js i 0) ≡ true → Walked t old js (i + 1) list next
      walked-skip e = record {
        same = subst (λ ws. AppendsSignatures old ws list) (sym more) (extends-skip old before list known.same (of_index t (get_or js i 0)) (known.met (get_or js i 0) e));
        met = λ x c. subst (λ ws. AllMet (old ++ ws) (of_index t x)) (sym more) (met_next x c);
      }

  pub walked-all : (t : Tree) (old : List SignatureToVerify) (js : List ℕ) (i : ℕ) (list : List SignatureToVerify) (seen : set.BTreeSet ℕ) → Walked t old js i list seen
      → length js ≤ i → AppendsSignatures old (signatures_at suite group_id t js) list
  walked-all t old js i list seen known past = subst (λ ks. AppendsSignatures old (signatures_at suite group_id t ks) list) (take_all i js past) known.same

  -- ---- those of the added leaves

  abbrev pub of_leaf : AddedLeaf → List SignatureToVerify
  of_leaf x = leaf_signatures suite group_id x.index x.leaf.now

  -- they are those of the tree
  pub added-are : (t : Tree) (xs : List AddedLeaf) → AreAdded t xs → added_signatures suite group_id xs ≡ signatures_at suite group_id t (indices xs)
  added-are t [] a = refl
  added-are t (x ∷ xs) a = λ i. non_blank_leaf_signatures suite group_id x.index (sym a.0 i) ++ added-are t xs a.1 i

  added_signatures-more : (xs : List AddedLeaf) (y : AddedLeaf) → added_signatures suite group_id (xs ++ y ∷ []) ≡ added_signatures suite group_id xs ++ of_leaf y
  added_signatures-more [] y = append-nil (of_leaf y)
  added_signatures-more (x ∷ xs) y =
      ap (λ ws. of_leaf x ++ ws) (added_signatures-more xs y) ∙ sym (append_assoc (of_leaf x) (added_signatures suite group_id xs) (of_leaf y))

  -- the signature of a leaf node from a KeyPackage doesn't depend on the leaf index
  pub no_index : (x : LeafNode) (i j : ℕ) → is_from_key_package x.source ≡ true → leaf_signatures suite group_id i x ≡ leaf_signatures suite group_id j x
  unfolding leaf_tbs tbs_suffix
  no_index x i j e =
      ap (λ p. labeled_signatures suite x.signature_key (codes "MLS 1.0 LeafNodeTBS") (unsigned_leaf x ⊕ p) x.signature) (go x.source e)
    where
      go : (s : LeafSource) → is_from_key_package s ≡ true → tbs_suffix s group_id i ≡ tbs_suffix s group_id j
      go (sources.KeyPackage l) e = refl
      go sources.Update e = absurd (false≢true e)
      go (sources.Commit h) e = absurd (false≢true e)

  -- a leaf before position i is met
  met-before : (xs : List AddedLeaf) (i k : ℕ) (y : AddedLeaf) → k < i → slice_get xs k ≡ Some y → AllMet (added_signatures suite group_id (take i xs)) (of_leaf y)
  met-before [] i k y low is = absurd (none-some y is)
  met-before (x ∷ xs) zero k y low is = absurd (omega arith)
  met-before (x ∷ xs) (suc i) zero y low is =
      subst (λ z. AllMet (of_leaf x ++ added_signatures suite group_id (take i xs)) (of_leaf z)) (same_Some x y is)
      (all_front (of_leaf x) (added_signatures suite group_id (take i xs)) (of_leaf x) (all_itself (of_leaf x)))
  met-before (x ∷ xs) (suc i) (suc k) y low is =
      all_behind (of_leaf x) (added_signatures suite group_id (take i xs)) (of_leaf y) (met-before xs i k y (omega arith) is)

  named-at : (F : List ℕ → Option LeafNode) (xs : List AddedLeaf) (k : ℕ) (y : AddedLeaf) → AreNamedBy F xs → slice_get xs k ≡ Some y → IsNamedBy F y
  named-at F [] k y h is = absurd (none-some y is)
  named-at F (x ∷ xs) zero y h is = subst (IsNamedBy F) (same_Some x y is) h.0
  named-at F (x ∷ xs) (suc k) y h is = named-at F xs k y h.1 is

  value-at : (P : LeafNode → Type 0) (xs : List AddedLeaf) (k : ℕ) (y : AddedLeaf) → AreOfValues P xs → slice_get xs k ≡ Some y → name_of y ≡ None → P y.leaf.now
  value-at P [] k y h is none = absurd (none-some y is)
  value-at P (x ∷ xs) zero y h is none = subst (λ (z : AddedLeaf). P z.leaf.now) (same_Some x y is) (h.0 (ap name_of (same_Some x y is) ∙ none))
  value-at P (x ∷ xs) (suc k) y h is none = value-at P xs k y h.1 is none

  module _ (old : List SignatureToVerify) (xs : List AddedLeaf) (i : ℕ) (list : List SignatureToVerify)
      (known : AppendsSignatures old (added_signatures suite group_id (take i xs)) list) (x : AddedLeaf) (low : i < length xs) (is : x ≡ get_or xs i x) where
    next : added_signatures suite group_id (take (i + 1) xs) ≡ added_signatures suite group_id (take i xs) ++ of_leaf x
    next =
        ap (added_signatures suite group_id) (take_more xs i x low ∙ ap (λ (y : AddedLeaf). take i xs ++ y ∷ []) (sym is))
        ∙ added_signatures-more (take i xs) x

    -- one more
    pub added-push : (new : List SignatureToVerify) → AppendsSignatures list (of_leaf x) new → AppendsSignatures old (added_signatures suite group_id (take (i + 1) xs)) new
    added-push new e = subst (λ ws. AppendsSignatures old ws new) (sym next) (extends-more old (added_signatures suite group_id (take i xs)) list known (of_leaf x) new e)

    abbrev before_it : List SignatureToVerify
    before_it = added_signatures suite group_id (take i xs)

    -- one that is met
    skip-met : AllMet (old ++ before_it) (of_leaf x) → AppendsSignatures old (added_signatures suite group_id (take (i + 1) xs)) list
    skip-met m = subst (λ ws. AppendsSignatures old ws list) (sym next) (extends-skip old before_it list known (of_leaf x) m)

    -- one that came with its proposal
    pub added-value : AreOfValues (λ n. AppendsSignatures old (leaf_signatures suite group_id 0 n) old) xs → IsByValue xs i
        → AppendsSignatures old (added_signatures suite group_id (take (i + 1) xs)) list
    added-value values v =
        let here : v.here ≡ x = same_Some v.here x (sym v.is_here ∙ at_place xs i x low is) in
        let own = leaf_signatures suite group_id 0 v.here.leaf.now in
        let listed = value-at (λ n. AppendsSignatures old (leaf_signatures suite group_id 0 n) old) xs i v.here values v.is_here v.unnamed in
        let same : own ≡ of_leaf x = no_index v.here.leaf.now 0 v.here.index v.source ∙ ap of_leaf here in
        skip-met (all_front old before_it (of_leaf x) (subst (AllMet old) same (appended-met old own old listed)))

    -- one that came before
    pub added-skip : AreNamedAlike xs → IsRepeat xs i → AppendsSignatures old (added_signatures suite group_id (take (i + 1) xs)) list
    added-skip alike repeat =
        let here : repeat.here ≡ x = same_Some repeat.here x (sym repeat.is_here ∙ at_place xs i x low is) in
        let one = named-at alike.leaf_named xs repeat.at repeat.there alike.are repeat.is_there repeat.named.name repeat.named.first in
        let other = named-at alike.leaf_named xs i repeat.here alike.are repeat.is_here repeat.named.name repeat.named.second in
        let leaves : repeat.there.leaf.now ≡ repeat.here.leaf.now = same_Some repeat.there.leaf.now repeat.here.leaf.now (sym one ∙ other) in
        let same : of_leaf repeat.there ≡ of_leaf x =
        ap (λ n. leaf_signatures suite group_id repeat.there.index n) leaves
        ∙ no_index repeat.here.leaf.now repeat.there.index repeat.here.index repeat.source
        ∙ ap of_leaf here in
        let met : AllMet (added_signatures suite group_id (take i xs)) (of_leaf x) =
        subst (AllMet (added_signatures suite group_id (take i xs))) same (met-before xs i repeat.at repeat.there repeat.before repeat.is_there) in
        skip-met (all_behind old before_it (of_leaf x) met)

  pub added-all : (old : List SignatureToVerify) (xs : List AddedLeaf) (i : ℕ) (list : List SignatureToVerify)
      → AppendsSignatures old (added_signatures suite group_id (take i xs)) list → length xs ≤ i → AppendsSignatures old (added_signatures suite group_id xs) list
  added-all old xs i list known past = subst (λ ys. AppendsSignatures old (added_signatures suite group_id ys) list) (take_all i xs past) known

  -- those of the replaced leaves and of the added ones
  pub all_extends : (t : Tree) (js : List ℕ) (xs : List AddedLeaf) → AreAdded t xs → (old first new : List SignatureToVerify)
      → AppendsSignatures old (signatures_at suite group_id t js) first → AppendsSignatures first (added_signatures suite group_id xs) new
      → AppendsSignatures old (signatures_at suite group_id t (js ++ indices xs)) new
  all_extends t js xs added old first new e f =
      let replaced = signatures_at suite group_id t js in
      subst (λ ws. AppendsSignatures old ws new)
      (ap (λ ws. replaced ++ ws) (added-are t xs added) ∙ sym (signatures_at-both t js (indices xs)))
      (extends-more old replaced first e (added_signatures suite group_id xs) new f)
