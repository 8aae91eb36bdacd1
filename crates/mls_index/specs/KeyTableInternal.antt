-- Steps of changing a key table. Internal: no public contract uses this.
use Rattle.std.specs.Prelude.{◌≡◌, ℕ, List, Bool, true, false, Some}
use Rattle.std.specs.Coded.{Coded-set, coded_bool}
use Rattle.mls_tree.specs.Tree.{Tree}
use Rattle.mls_index.specs.IncrementalCheck.{contains_node_index}
use Rattle.mls_index.specs.EntryTable.{base_at, HaveDistinctNumbers}
use Rattle.mls_index.specs.EntryTableInternal.{AreSettled, HaveDistinctNumbers-prop, IsTableOf-prop}
use Rattle.mls_index.specs.KeyTable.{has_number, IsTableOfTree, TableContainsKeys}
use Rattle.mls_index.specs.NodeKeys.{are_numbers_for, key_at_node}
use Rattle.mls_index.specs.declared.node_key.KeyKind.{KeyKind}
use Rattle.mls_index.specs.declared.key_table.KeyTable.{KeyTable}

bool_set : (a b : Bool) → IsProp (a ≡ b)
bool_set a b = Coded-set coded_bool a b

-- `IsTableOfTree` has at most one proof.
pub IsTableOfTree-prop : (kind : KeyKind) (t : Tree) (k : KeyTable) → IsProp (IsTableOfTree kind t k)
IsTableOfTree-prop kind t k g h = λ i. record {
  prefixes = IsTableOf-prop (base_at k.prefixes) k.prefixes g.prefixes h.prefixes i;
  fingerprints = IsTableOf-prop (base_at k.fingerprints) k.fingerprints g.fingerprints h.fingerprints i;
  numbers = λ p. bool_set (are_numbers_for (key_at_node kind t p) (base_at k.prefixes p) (base_at k.fingerprints p)) true (g.numbers p) (h.numbers p) i;
  distinct = HaveDistinctNumbers-prop k.prefixes.entries g.distinct h.distinct i;
}

-- `ContainsKeysBut node_indices kind t k`: the table has an entry for each key of the tree outside some node indices.
abbrev pub ContainsKeysBut : List ℕ → KeyKind → Tree → KeyTable → Type 0
ContainsKeysBut node_indices kind t k = (key : List ℕ) (p : ℕ) → contains_node_index node_indices p ≡ false → key_at_node kind t p ≡ Some key
    → has_number k key p ≡ true

-- `IsSettling kind t rest k`: the tree becomes the base tree of the table. The node indices in `rest` and the added
-- entries are left to do.
pub record IsSettling (kind : KeyKind) (t : Tree) (rest : List ℕ) (k : KeyTable) : Type 0 where
  pub covers : TableContainsKeys kind t k
  pub numbers : (p : ℕ) → contains_node_index rest p ≡ false → are_numbers_for (key_at_node kind t p) (base_at k.prefixes p) (base_at k.fingerprints p) ≡ true
  pub prefixes : AreSettled rest k.prefixes
  pub fingerprints : AreSettled rest k.fingerprints
  pub distinct : HaveDistinctNumbers k.prefixes.entries
