-- That an index is the one of a tree has at most one proof. Internal: no public contract uses this.
use Rattle.mls_tree.specs.Tree.{Tree}
use Rattle.mls_index.specs.KeyTableInternal.{IsTableOfTree-prop}
use Rattle.mls_index.specs.CredentialCountsInternal.{AreCountsOf-prop}
use Rattle.mls_index.specs.TreeIndex.{IsIndexOf}
use Rattle.mls_index.specs.declared.node_key.KeyKind.TheVariants.{Encryption, Signature}
use Rattle.mls_index.specs.declared.tree_index.TreeIndex.{TreeIndex}

-- `IsIndexOf` has at most one proof.
pub IsIndexOf-prop : (t : Tree) (i : TreeIndex) → IsProp (IsIndexOf t i)
IsIndexOf-prop t i g h = λ j. record {
  encryption = IsTableOfTree-prop Encryption t i.encryption g.encryption h.encryption j;
  signature = IsTableOfTree-prop Signature t i.signature g.signature h.signature j;
  credentials = AreCountsOf-prop t i.credentials g.credentials h.credentials j;
}
