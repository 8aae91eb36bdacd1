-- Entries, each a number of a key and a node index. A function `x` maps a node index to the number of the entry there, if there
-- is one. Used by contracts.
use Rattle.std.specs.Prelude.{◌≡◌, ◌≢◌, ◌&&◌, ℕ, ◌==◌, List, [], Bool, true, false, Option, Some, None, length, nat_lt, slice_get, unwrap_or}
use Rattle.std.specs.BTreeSet.{BTreeSet, contains}
use Rattle.std.specs.List.{list_any}
use Rattle.std.specs.Ordering.{nat_cmp, ordering_then}
use Rattle.std.specs.declared.cmp.Ordering.{Ordering}
use Rattle.mls_index.specs.declared.entry_table.EntryTable.{EntryTable}

-- `entry_cmp x y` is the order of entries, each a number and a node index.
abbrev pub entry_cmp : ℕ × ℕ → ℕ × ℕ → Ordering
entry_cmp x y = ordering_then (nat_cmp x.0 y.0) (nat_cmp x.1 y.1)

-- `has_entry s b p`: there is an entry of this number and node index.
unfoldable pub has_entry : BTreeSet (ℕ × ℕ) → ℕ → ℕ → Bool
has_entry s b p = contains entry_cmp s (b, p)

-- `contains_entry es b p`: the list has this entry.
unfoldable pub contains_entry : List (ℕ × ℕ) → ℕ → ℕ → Bool
contains_entry es b p = list_any (λ e. (e.0 == b) && (e.1 == p)) es

-- `HaveDistinctNumbers s`: no two entries have the same number.
abbrev pub HaveDistinctNumbers : BTreeSet (ℕ × ℕ) → Type 0
HaveDistinctNumbers s = (b p q : ℕ) → has_entry s b p ≡ true → has_entry s b q ≡ true → p ≡ q

-- `base_at k p` is the number that the table stores for a node index of its base.
unfoldable pub base_at : EntryTable → ℕ → Option ℕ
base_at k p = unwrap_or (slice_get k.numbers p) None

-- `is_entered k b p`: the table has an entry of this number and node index, and can store a number for the node index.
unfoldable pub is_entered : EntryTable → ℕ → ℕ → Bool
is_entered k b p = nat_lt p (length k.numbers) && has_entry k.entries b p

-- `TableHasBase x k`: the base of the table is `x`. It has further entries only for keys that were added since.
pub record TableHasBase (x : ℕ → Option ℕ) (k : EntryTable) : Type 0 where
  pub base : (p : ℕ) → base_at k p ≡ x p
  pub all : (b p : ℕ) → x p ≡ Some b → has_entry k.entries b p ≡ true
  pub only : (b p : ℕ) → has_entry k.entries b p ≡ true → contains_entry k.came.items b p ≡ false → x p ≡ Some b
  pub new : (b p : ℕ) → contains_entry k.came.items b p ≡ true → x p ≢ Some b

-- `IsTableOf x k`: the entries are those of `x`, and none were added.
pub record IsTableOf (x : ℕ → Option ℕ) (k : EntryTable) : Type 0 where
  pub between : TableHasBase x k
  pub none_came : k.came.items ≡ []
