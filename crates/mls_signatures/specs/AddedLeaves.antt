-- The leaves that the Adds of a commit's list add, as the implementation holds them. Internal: no public contract uses this.
use Rattle.std.specs.Prelude.{◌≡◌, ℕ, zero, suc, ⊤, Bool, true, not, List, [], ◌∷◌, ◌++◌, map, filter, Option, Some, None, IfSome, option_map, slice_get, ◌<◌}
use Rattle.std.specs.Borrow.{Bor}
use Rattle.std.specs.BTreeMap.{BTreeMap, get}
use Rattle.std.specs.Ordering.{nat_cmp}
use Rattle.mls_nodes.specs.declared.context.GroupContext.{GroupContext}
use Rattle.mls_nodes.specs.declared.leaf.LeafNode.{LeafNode}
use Rattle.mls_tree.specs.Tree.{Tree, leaf_at}
use Rattle.mls_msgs.specs.declared.framed_content.Sender.{Sender}
use Rattle.mls_msgs.specs.declared.proposal.Proposal.{Proposal}
use Rattle.mls_msgs.specs.declared.proposal.Proposal.TheVariants as proposals
use Rattle.mls_msgs.specs.declared.proposal.ProposalOrRef.{ProposalOrRef}
use Rattle.mls_msgs.specs.declared.proposal.ProposalOrRef.TheVariants as entries
use Rattle.mls_apply.specs.declared.list_item.ListItem.{ListItem}
use Rattle.mls_apply.specs.Outline.{IsApart}
use Rattle.mls_apply.specs.ProposalRules.{is_from_key_package}
use Rattle.mls_signatures.specs.SignaturesToVerify.{ListedLeaves, leaf_signatures, entries_signatures, deduplicated, new_leaves, fresh_leaves}
use Rattle.mls_signatures.specs.declared.added_leaves.AddedLeaf.{AddedLeaf}
use Rattle.mls_signatures.specs.declared.added_leaves.NewLeaves.{NewLeaves}
use Rattle.mls_signatures.specs.declared.added_leaves.NewLeaves.TheVariants.{All, Fresh}
use Rattle.mls_signatures.specs.declared.signature_to_verify.SignatureToVerify.{SignatureToVerify}

-- ---- the references of a list

-- `reference_of_entry e` is the reference in an entry, if the entry is one.
abbrev pub reference_of_entry : ProposalOrRef → Option (List ℕ)
reference_of_entry (entries.Proposal _) = None
reference_of_entry (entries.Reference r) = Some r

-- `reference_at es i` is the reference in the entry at position `i`, if there is one.
abbrev pub reference_at : List ProposalOrRef → ℕ → Option (List ℕ)
reference_at [] i = None
reference_at (e ∷ es) zero = reference_of_entry e
reference_at (e ∷ es) (suc i) = reference_at es i

-- `leaf_of_add p` is the leaf node of a proposal, if it is an Add.
abbrev pub leaf_of_add : Proposal → Option LeafNode
leaf_of_add (proposals.Add k) = Some k.leaf_node
leaf_of_add (proposals.Update _) = None
leaf_of_add (proposals.Remove _) = None
leaf_of_add (proposals.ContextExtensions _) = None
leaf_of_add (proposals.PreSharedKey _) = None
leaf_of_add (proposals.ReInit _) = None
leaf_of_add (proposals.ExternalInit _) = None

-- `leaf_in items i` is the leaf node of the item at position `i`, if there is one and it is an Add.
abbrev pub leaf_in : List ListItem → ℕ → Option LeafNode
leaf_in [] i = None
leaf_in (x ∷ xs) zero = leaf_of_add x.proposal
leaf_in (x ∷ xs) (suc i) = leaf_in xs i

-- `NamesAre F es items`: where an entry is a reference, `F` of it is the leaf node of the item in its place.
abbrev pub NamesAre : (List ℕ → Option LeafNode) → List ProposalOrRef → List ListItem → Type 0
NamesAre F es items = (i : ℕ) (r : List ℕ) → reference_at es i ≡ Some r → F r ≡ leaf_in items i

-- `ValuesAre P es items`: where an entry is no reference, and the item in its place has a leaf node, `P` holds of it.
abbrev pub ValuesAre : (LeafNode → Type 0) → List ProposalOrRef → List ListItem → Type 0
ValuesAre P es items = (i : ℕ) (x : LeafNode) → reference_at es i ≡ None → leaf_in items i ≡ Some x → P x

-- `HasNames es items`: in a list with these entries, one reference stands for one leaf node.
pub record HasNames (es : List ProposalOrRef) (items : List ListItem) : Type 0 where
  pub leaf_named : List ℕ → Option LeafNode
  pub are : NamesAre leaf_named es items

-- ---- pending Adds from KeyPackages

-- `IfFresh which P`: if only the fresh leaves are listed, `P` holds.
abbrev pub IfFresh : NewLeaves → Type 0 → Type 0
IfFresh All P = ⊤
IfFresh Fresh P = P

-- `HasPackageNames es items`: in a list with these entries, one reference stands for one leaf node, which is from a KeyPackage.
pub record HasPackageNames (es : List ProposalOrRef) (items : List ListItem) : Type 0 where
  pub leaf_named : List ℕ → Option LeafNode
  pub are : NamesAre leaf_named es items
  pub packages : (r : List ℕ) (x : LeafNode) → leaf_named r ≡ Some x → is_from_key_package x.source ≡ true

-- ---- the added leaves

-- `indices xs` is the leaf indices of added leaves.
abbrev pub indices : List AddedLeaf → List ℕ
indices xs = map (λ (x : AddedLeaf). x.index) xs

-- `leaf_nodes xs` is the leaf nodes of added leaves.
abbrev pub leaf_nodes : List AddedLeaf → List LeafNode
leaf_nodes xs = map (λ (x : AddedLeaf). x.leaf.now) xs

-- `name_of x` is the reference by which the list names an Add, if it does.
abbrev pub name_of : AddedLeaf → Option (List ℕ)
name_of x = option_map (λ r. r.now) x.reference

-- `IsPackageIfNamed x`: if the list names the Add of the leaf by a reference, the leaf node is from a KeyPackage.
abbrev pub IsPackageIfNamed : AddedLeaf → Type 0
IsPackageIfNamed x = (r : List ℕ) → name_of x ≡ Some r → is_from_key_package x.leaf.now.source ≡ true

-- `AreAdded t xs`: these are leaves of the tree.
abbrev pub AreAdded : Tree → List AddedLeaf → Type 0
AreAdded t [] = ⊤
AreAdded t (x ∷ xs) = (leaf_at 0 t x.index ≡ Some x.leaf.now) × AreAdded t xs

-- `IsNamedBy F x`: `F` of the leaf's reference, if it has one, is its leaf node.
abbrev pub IsNamedBy : (List ℕ → Option LeafNode) → AddedLeaf → Type 0
IsNamedBy F x = (r : List ℕ) → name_of x ≡ Some r → F r ≡ Some x.leaf.now

-- `AreNamedBy F xs`: so it is of each of the leaves.
abbrev pub AreNamedBy : (List ℕ → Option LeafNode) → List AddedLeaf → Type 0
AreNamedBy F [] = ⊤
AreNamedBy F (x ∷ xs) = IsNamedBy F x × AreNamedBy F xs

-- `AreOfValues P xs`: `P` holds of the leaf node of each of the leaves that has no reference.
abbrev pub AreOfValues : (LeafNode → Type 0) → List AddedLeaf → Type 0
AreOfValues P [] = ⊤
AreOfValues P (x ∷ xs) = (name_of x ≡ None → P x.leaf.now) × AreOfValues P xs

-- `AreNamedAlike xs`: leaves with one reference have one leaf node.
pub record AreNamedAlike (xs : List AddedLeaf) : Type 0 where
  pub leaf_named : List ℕ → Option LeafNode
  pub are : AreNamedBy leaf_named xs

-- `IsAfter t u xs`: `t` has the added leaves `xs`, and each other leaf is that of `u`.
pub record IsAfter (t u : Tree) (xs : List AddedLeaf) : Type 0 where
  pub added : AreAdded t xs
  pub others : (j : ℕ) → IsApart (indices xs) j → leaf_at 0 u j ≡ leaf_at 0 t j

-- `IsMapOf t u m`: a leaf of `t` is the one in the map, and that of `u` if the map has none.
pub record IsMapOf (t u : Tree) (m : BTreeMap ℕ (Bor LeafNode)) : Type 0 where
  pub found : (j : ℕ) → IfSome (get nat_cmp m j) (λ x. leaf_at 0 t j ≡ Some x.now)
  pub others : (j : ℕ) → get nat_cmp m j ≡ None → leaf_at 0 u j ≡ leaf_at 0 t j

-- `added_signatures suite group_id xs` is the signatures of added leaves, in their order.
abbrev pub added_signatures : ℕ → List ℕ → List AddedLeaf → List SignatureToVerify
added_signatures suite group_id [] = []
added_signatures suite group_id (x ∷ xs) = leaf_signatures suite group_id x.index x.leaf.now ++ added_signatures suite group_id xs

-- ---- which leaves are listed

-- `leaves_of which` is the leaf indices that are listed.
abbrev pub leaves_of : NewLeaves → ListedLeaves
leaves_of All = new_leaves
leaves_of Fresh = fresh_leaves

-- `is_other x`: the leaf node is not from a KeyPackage.
abbrev pub is_other : AddedLeaf → Bool
is_other x = not (is_from_key_package x.leaf.now.source)

-- `other_leaves xs` is those of the leaves `xs` whose leaf node is not from a KeyPackage.
abbrev pub other_leaves : List AddedLeaf → List AddedLeaf
other_leaves xs = filter is_other xs

-- ---- repeats

-- `HaveOneName x y`: both leaves have a reference, and it is the same.
pub record HaveOneName (x y : AddedLeaf) : Type 0 where
  pub name : List ℕ
  pub first : name_of x ≡ Some name
  pub second : name_of y ≡ Some name

-- `IsRepeat xs i`: an earlier leaf has the reference of the leaf at position `i`, whose leaf node is from a KeyPackage.
pub record IsRepeat (xs : List AddedLeaf) (i : ℕ) : Type 0 where
  pub at : ℕ
  pub before : at < i
  pub here : AddedLeaf
  pub there : AddedLeaf
  pub is_here : slice_get xs i ≡ Some here
  pub is_there : slice_get xs at ≡ Some there
  pub named : HaveOneName there here
  pub source : is_from_key_package here.leaf.now.source ≡ true

-- `IsByValue xs i`: the leaf at position `i` has no reference, and its leaf node is from a KeyPackage.
pub record IsByValue (xs : List AddedLeaf) (i : ℕ) : Type 0 where
  pub here : AddedLeaf
  pub is_here : slice_get xs i ≡ Some here
  pub unnamed : name_of here ≡ None
  pub source : is_from_key_package here.leaf.now.source ≡ true

-- ---- signatures that a list has

-- `AppendsSignatures old qs new`: without duplicates, `new` is `old` followed by `qs`.
abbrev pub AppendsSignatures : List SignatureToVerify → List SignatureToVerify → List SignatureToVerify → Type 0
AppendsSignatures old qs new = deduplicated new ≡ deduplicated (old ++ qs)

-- `IsListed context qs x`: the list has the signature of the leaf node `x`, at leaf index 0. If the leaf node is from a
-- KeyPackage, its signature depends on no leaf index.
abbrev pub IsListed : GroupContext → List SignatureToVerify → LeafNode → Type 0
IsListed context qs x = AppendsSignatures qs (leaf_signatures context.cipher_suite context.group_id 0 x) qs

-- `ListValues context committer es items`: once the signatures of the entries are appended to a list, it has those of the
-- leaf nodes of the Adds by value.
abbrev pub ListValues : GroupContext → Sender → List ProposalOrRef → List ListItem → Type 0
ListValues context committer es items = (old new : List SignatureToVerify)
    → AppendsSignatures old (entries_signatures context committer es) new → ValuesAre (IsListed context new) es items
