-- Codes of ratchet trees. That a tree has the shape has at most one proof. Internal: no public contract uses this.
use Rattle.std.specs.Prelude.{◌≡◌, Option}
use Rattle.std.specs.Coded.{Coded, coded_option, Unit-prop, le_prop}
use Rattle.std.proofs.Common.{ap}
use base.Stored.{Gv, gnil, gnum, gcons, coded_via}
use native.Mathlib.Nat.{ℕ_set}
use mathlib.Core.HLevel.{is_prop→PathP}
use Rattle.mls_nodes.specs.contracts.encoded_leaf.EncodedLeaf as leaf-node
use Rattle.mls_nodes.specs.contracts.parent.ParentNode as parent-node
use Rattle.mls_nodes.specs.declared.leaf.LeafNode.{LeafNode}
use Rattle.mls_nodes.specs.declared.parent.ParentNode.{ParentNode}
use Rattle.mls_tree.specs.Tree.{Tree, leaf, branch, height, IsPerfect}
use Rattle.mls_tree.specs.RatchetTree.{HasShape, RatchetTree}

-- `IsPerfect` has at most one proof.
pub IsPerfect-prop : (t : Tree) → IsProp (IsPerfect t)
IsPerfect-prop (leaf _) x y = Unit-prop x y
IsPerfect-prop (branch l _ r) x y = λ i. (ℕ_set (height l) (height r) x.0 y.0 i, IsPerfect-prop l x.1 y.1 i, IsPerfect-prop r x.2 y.2 i)

-- `HasShape` has at most one proof.
pub HasShape-prop : (t : Tree) → IsProp (HasShape t)
HasShape-prop t x y = λ i. record { perfect = IsPerfect-prop t x.perfect y.perfect i; low = le_prop x.low y.low i }

-- Two ratchet trees are equal if they are equal as trees.
pub RatchetTree-same : (x y : RatchetTree) → x.tree ≡ y.tree → x ≡ y
RatchetTree-same x y e = λ i. record { tree = e i; shape = is_prop→PathP (λ j. HasShape (e j)) (λ j. HasShape-prop (e j)) x.shape y.shape i }

-- The first part of a code. Each value of a model needs a code that no other value has.
abbrev head : Gv → Gv
head gnil = gnil
head (gnum n) = gnil
head (gcons a b) = a

-- The rest of a code.
abbrev tail : Gv → Gv
tail gnil = gnil
tail (gnum n) = gnil
tail (gcons a b) = b

-- The code of a leaf.
abbrev leaf_coded : Coded (Option LeafNode)
leaf_coded = coded_option leaf-node.the_row.coded

-- The code of a parent.
abbrev parent_coded : Coded (Option ParentNode)
parent_coded = coded_option parent-node.the_row.coded

-- The code of a tree: those of its subtrees and of its node.
abbrev pub tree_code : Tree → Gv
tree_code (leaf x) = gcons gnil (leaf_coded.code x)
tree_code (branch l p r) = gcons (gcons (tree_code l) (tree_code r)) (parent_coded.code p)

-- Trees of one code are equal.
pub tree_inj : (x y : Tree) → tree_code x ≡ tree_code y → x ≡ y
tree_inj (leaf x) (leaf y) e = λ i. leaf (leaf_coded.inj x y (ap tail e) i)
tree_inj (leaf x) (branch l p r) e = absurd (cc)
tree_inj (branch l p r) (leaf x) e = absurd (cc)
tree_inj (branch l p r) (branch m q s) e =
    λ i. branch (tree_inj l m (ap (λ g. head (head g)) e) i) (parent_coded.inj p q (ap tail e) i) (tree_inj r s (ap (λ g. tail (head g)) e) i)

-- Trees have codes.
abbrev pub tree_coded : Coded Tree
tree_coded = record { code = tree_code; inj = tree_inj }

-- Ratchet trees have codes, by their trees.
abbrev pub ratchet_tree_coded : Coded RatchetTree
ratchet_tree_coded = coded_via tree_coded (λ x. x.tree) RatchetTree-same
