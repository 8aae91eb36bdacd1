-- The index of a tree's keys and of its leaves' credentials. `t` is a tree, `i` the index. Used by contracts.
use Rattle.mls_tree.specs.Tree.{Tree}
use Rattle.mls_index.specs.KeyTable as table
use Rattle.mls_index.specs.CredentialCounts as counts
use Rattle.mls_index.specs.declared.node_key.KeyKind.TheVariants.{Encryption, Signature}
use Rattle.mls_index.specs.declared.tree_index.TreeIndex.{TreeIndex}

-- `HasBase t i`: `i` is the index of `t` with further entries for a changed tree. `TreeIndex::revert` removes these and
-- gives `IsIndexOf t`. No two entries of a kind have the same prefix as their number.
pub record HasBase (t : Tree) (i : TreeIndex) : Type 0 where
  pub encryption : table.HasBaseOf Encryption t i.encryption
  pub signature : table.HasBaseOf Signature t i.signature
  pub credentials : counts.HaveBase t i.credentials

-- `IsIndexOf t i`: `i` is the index of `t`. Its entries are the keys of `t`, and its counts are those of `t`. No two entries of a
-- kind have the same prefix as their number.
pub record IsIndexOf (t : Tree) (i : TreeIndex) : Type 0 where
  pub encryption : table.IsTableOfTree Encryption t i.encryption
  pub signature : table.IsTableOfTree Signature t i.signature
  pub credentials : counts.AreCountsOf t i.credentials

-- `ContainsKeysOf t i`: `i` has an entry for each key of `t`, perhaps others, and its counts are those of `t`. Look-ups
-- for `t` are then right.
pub record ContainsKeysOf (t : Tree) (i : TreeIndex) : Type 0 where
  pub encryption : table.TableContainsKeys Encryption t i.encryption
  pub signature : table.TableContainsKeys Signature t i.signature
  pub credentials : counts.Count t i.credentials

-- `AddsNumbersTo t old new`: each entry of a key in `new` is one of `old`, or its number is the prefix or the fingerprint of the
-- key of `t` at its node index.
pub record AddsNumbersTo (t : Tree) (old new : TreeIndex) : Type 0 where
  pub encryption : table.AddsNumbers Encryption t old.encryption new.encryption
  pub signature : table.AddsNumbers Signature t old.signature new.signature

-- The index of a tree has it as its base.
abbrev pub IndexHasBase : Type 0
IndexHasBase = (t : Tree) (i : TreeIndex) → IsIndexOf t i → HasBase t i

-- The index of a tree contains its keys.
abbrev pub IndexContainsKeys : Type 0
IndexContainsKeys = (t : Tree) (i : TreeIndex) → IsIndexOf t i → ContainsKeysOf t i
