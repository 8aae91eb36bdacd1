-- Node indices of keys, by the prefix or the fingerprint of each key. Used by contracts.
use Rattle.std.specs.Prelude.{◌≡◌, ◌⊎◌, ◌||◌, ℕ, List, Bool, true, Some}
use Rattle.mls_nodes.specs.Fingerprints.{fingerprint}
use Rattle.mls_nodes.specs.KeyPrefix.{key_prefix}
use Rattle.mls_tree.specs.Tree.{Tree}
use Rattle.mls_index.specs.EntryTable.{base_at, has_entry, is_entered, HaveDistinctNumbers, IsTableOf, TableHasBase}
use Rattle.mls_index.specs.NodeKeys.{key_at_node, prefix_at, fingerprint_at, AreNumbersOf}
use Rattle.mls_index.specs.declared.node_key.KeyKind.{KeyKind}
use Rattle.mls_index.specs.declared.key_table.KeyTable.{KeyTable}

-- `has_number k key p`: the table has an entry of the prefix or of the fingerprint of the key, and of this node index.
unfoldable pub has_number : KeyTable → List ℕ → ℕ → Bool
has_number k key p = is_entered k.prefixes (key_prefix key) p || is_entered k.fingerprints (fingerprint key) p

-- `HasBaseOf kind t k`: the base of the table is the prefix or the fingerprint of each key of the tree. No two entries have the
-- same prefix as their number, whether they are of the base or were added since.
pub record HasBaseOf (kind : KeyKind) (t : Tree) (k : KeyTable) : Type 0 where
  pub prefixes : TableHasBase (base_at k.prefixes) k.prefixes
  pub fingerprints : TableHasBase (base_at k.fingerprints) k.fingerprints
  pub numbers : AreNumbersOf kind t (base_at k.prefixes) (base_at k.fingerprints)
  pub distinct : HaveDistinctNumbers k.prefixes.entries

-- `IsTableOfTree kind t k`: the entries are one for each key of the tree, of its prefix or its fingerprint, and none were added.
-- No two entries have the same prefix as their number.
pub record IsTableOfTree (kind : KeyKind) (t : Tree) (k : KeyTable) : Type 0 where
  pub prefixes : IsTableOf (base_at k.prefixes) k.prefixes
  pub fingerprints : IsTableOf (base_at k.fingerprints) k.fingerprints
  pub numbers : AreNumbersOf kind t (base_at k.prefixes) (base_at k.fingerprints)
  pub distinct : HaveDistinctNumbers k.prefixes.entries

-- `TableContainsKeys kind t k`: the table has an entry for each key of the tree.
abbrev pub TableContainsKeys : KeyKind → Tree → KeyTable → Type 0
TableContainsKeys kind t k = (key : List ℕ) (p : ℕ) → key_at_node kind t p ≡ Some key → has_number k key p ≡ true

-- `AddsNumbers kind t old new`: each entry of `new` is one of `old`, or its number is the prefix or the fingerprint of the tree's
-- key at its node index, as it is an entry of prefixes or of fingerprints.
pub record AddsNumbers (kind : KeyKind) (t : Tree) (old new : KeyTable) : Type 0 where
  pub prefixes : (b p : ℕ) → has_entry new.prefixes.entries b p ≡ true → (has_entry old.prefixes.entries b p ≡ true) ⊎ (prefix_at kind t p ≡ Some b)
  pub fingerprints : (b p : ℕ) → has_entry new.fingerprints.entries b p ≡ true → (has_entry old.fingerprints.entries b p ≡ true) ⊎ (fingerprint_at kind t p ≡ Some b)
