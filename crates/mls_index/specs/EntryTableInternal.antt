-- Steps of making and changing a table of entries. A function `x` maps a node index to the number of the entry there, if there is
-- one. Internal: no public contract uses this.
use Rattle.std.specs.Prelude.{◌≡◌, ◌≢◌, ◌⊎◌, ℕ, ◌<◌, List, [], Bool, true, false, Option, Some, None, length, slice_get, unwrap_or}
use Rattle.std.specs.BTreeSet.{BTreeSet}
use Rattle.std.specs.Coded.{Coded-set, coded_bool, coded_ℕ, coded_option, coded_list, coded×}
use Rattle.mls_tree.specs.Tree.{Tree}
use Rattle.mls_index.specs.IncrementalCheck.{contains_node_index}
use Rattle.mls_index.specs.EntryTable.{has_entry, contains_entry, base_at, is_entered, HaveDistinctNumbers, TableHasBase, IsTableOf}
use Rattle.mls_index.specs.NodeKeys.{prefix_at, fingerprint_at}
use Rattle.mls_index.specs.declared.node_key.KeyKind.{KeyKind}
use Rattle.mls_index.specs.declared.node_key.KeyNumber.{KeyNumber}
use Rattle.mls_index.specs.declared.node_key.KeyNumber.TheVariants.{Prefix, Fingerprint}
use Rattle.mls_index.specs.declared.entry_table.KeyList.{KeyList}
use Rattle.mls_index.specs.declared.entry_table.EntryTable.{EntryTable}

-- `number_at choice kind t p` is a number of the key at a node index.
abbrev pub number_at : KeyNumber → KeyKind → Tree → ℕ → Option ℕ
number_at Prefix kind t p = prefix_at kind t p
number_at Fingerprint kind t p = fingerprint_at kind t p

bool_set : (a b : Bool) → IsProp (a ≡ b)
bool_set a b = Coded-set coded_bool a b

number_set : (o : Option ℕ) (r : Option ℕ) → IsProp (o ≡ r)
number_set o r = Coded-set (coded_option coded_ℕ) o r

entries_set : (es fs : List (ℕ × ℕ)) → IsProp (es ≡ fs)
entries_set es fs = Coded-set (coded_list (coded× coded_ℕ coded_ℕ)) es fs

false_is_prop : (g h : ⊥) → g ≡ h
false_is_prop g h = absurd g

TableHasBase-prop : (x : ℕ → Option ℕ) (k : EntryTable) → IsProp (TableHasBase x k)
TableHasBase-prop x k g h = λ i. record {
  base = λ p. number_set (base_at k p) (x p) (g.base p) (h.base p) i;
  all = λ b p is. bool_set (has_entry k.entries b p) true (g.all b p is) (h.all b p is) i;
  only = λ b p has old. number_set (x p) (Some b) (g.only b p has old) (h.only b p has old) i;
  new = λ b p came is. false_is_prop (g.new b p came is) (h.new b p came is) i;
}

-- `IsTableOf` has at most one proof.
pub IsTableOf-prop : (x : ℕ → Option ℕ) (k : EntryTable) → IsProp (IsTableOf x k)
IsTableOf-prop x k g h = λ i. record {
  between = TableHasBase-prop x k g.between h.between i;
  none_came = entries_set k.came.items [] g.none_came h.none_came i;
}

-- `HaveDistinctNumbers` has at most one proof.
pub HaveDistinctNumbers-prop : (s : BTreeSet (ℕ × ℕ)) → IsProp (HaveDistinctNumbers s)
HaveDistinctNumbers-prop s g h = λ i. λ b p q has other. Coded-set coded_ℕ p q (g b p q has other) (h b p q has other) i

-- `listed_at k p` is the number in a list of keys for a node index.
unfoldable pub listed_at : KeyList → ℕ → Option ℕ
listed_at k p = unwrap_or (slice_get k.numbers p) None

-- `ListsFirst x n k`: the list has the keys of `x` at the node indices below n.
pub record ListsFirst (x : ℕ → Option ℕ) (n : ℕ) (k : KeyList) : Type 0 where
  pub count : length k.numbers ≡ n
  pub base : (p : ℕ) → p < n → listed_at k p ≡ x p
  pub all : (b p : ℕ) → p < n → x p ≡ Some b → contains_entry k.entries.items b p ≡ true
  pub only : (b p : ℕ) → contains_entry k.entries.items b p ≡ true → (p < n) × (x p ≡ Some b)

-- `ListsAll x k`: the list has the keys of `x`, and no others.
pub record ListsAll (x : ℕ → Option ℕ) (k : KeyList) : Type 0 where
  pub base : (p : ℕ) → listed_at k p ≡ x p
  pub all : (b p : ℕ) → x p ≡ Some b → contains_entry k.entries.items b p ≡ true
  pub only : (b p : ℕ) → contains_entry k.entries.items b p ≡ true → x p ≡ Some b

-- `HasListed o p es fs`: the entries `fs` are `es` with one more, if there is a number for the node index.
pub record HasListed (o : Option ℕ) (p : ℕ) (es fs : List (ℕ × ℕ)) : Type 0 where
  pub here : (b : ℕ) → o ≡ Some b → contains_entry fs b p ≡ true
  pub remaining : (b q : ℕ) → contains_entry es b q ≡ true → contains_entry fs b q ≡ true
  pub only : (b q : ℕ) → contains_entry fs b q ≡ true → (contains_entry es b q ≡ true) ⊎ ((o ≡ Some b) × (p ≡ q))

-- `AddsOnly b p s n`: each entry of `n` is one of `s`, or has this number and node index.
abbrev pub AddsOnly : ℕ → ℕ → BTreeSet (ℕ × ℕ) → BTreeSet (ℕ × ℕ) → Type 0
AddsOnly b p s n = (c q : ℕ) → has_entry n c q ≡ true → (has_entry s c q ≡ true) ⊎ ((b ≡ c) × (p ≡ q))

-- `HasLeft left now p s n`: the entries `n` are `s` without the one of the previous number, unless it is the number that
-- is there now.
pub record HasLeft (left now : Option ℕ) (p : ℕ) (s n : BTreeSet (ℕ × ℕ)) : Type 0 where
  pub gone : (b : ℕ) → left ≡ Some b → now ≢ Some b → has_entry n b p ≡ false
  pub only : (b q : ℕ) → has_entry n b q ≡ true → has_entry s b q ≡ true
  pub remaining : (b q : ℕ) → has_entry s b q ≡ true → (has_entry n b q ≡ true) ⊎ ((now ≢ Some b) × (p ≡ q))

-- `HasEntered o p k`: if there is a number for the node index, the table has its entry and can store it.
abbrev pub HasEntered : Option ℕ → ℕ → EntryTable → Type 0
HasEntered o p k = (b : ℕ) → o ≡ Some b → is_entered k b p ≡ true

-- `HasSettled o p k n`: the table `n` is `k` with the number of a node index stored, and without the entry of the previous number.
pub record HasSettled (o : Option ℕ) (p : ℕ) (k n : EntryTable) : Type 0 where
  pub here : base_at n p ≡ o
  pub others : (q : ℕ) → q ≢ p → base_at n q ≡ base_at k q
  pub left : HasLeft (base_at k p) o p k.entries n.entries
  pub came : n.came.items ≡ k.came.items
  pub long : length n.numbers ≡ length k.numbers

-- `AreSettled rest k`: the entries are those of the base, and those that were added. The node indices in `rest` are left to do.
pub record AreSettled (rest : List ℕ) (k : EntryTable) : Type 0 where
  pub all : (b p : ℕ) → contains_node_index rest p ≡ false → base_at k p ≡ Some b → has_entry k.entries b p ≡ true
  pub only : (b p : ℕ) → has_entry k.entries b p ≡ true → (base_at k p ≡ Some b) ⊎ (contains_entry k.came.items b p ≡ true)
