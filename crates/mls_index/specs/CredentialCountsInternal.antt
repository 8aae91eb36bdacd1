-- Counts of credential types while they are made and changed. `t` is a tree, `c` the counts. Internal: no public
-- contract uses this.
use Rattle.std.specs.Prelude.{◌≡◌, ℕ, ◌*◌, ◌≤◌, ◌<◌, ◌==◌, Bool, false, List, length, refl}
use Rattle.std.specs.List.{list_any}
use Rattle.std.specs.Coded.{Coded-set, coded_bool, coded×, coded_ℕ, code_by}
use Rattle.mls_tree.specs.Tree.{Tree, leaf_count, leaf_at}
use Rattle.mls_index.specs.LeafCredentials.{LeafClass, class_of, class_at}
use Rattle.mls_index.specs.CredentialCounts.{AreCountsOf}
use Rattle.mls_index.specs.declared.credential_counts.CredentialCounts.{CredentialCounts}

abbrev class_parts : LeafClass → Bool × (Bool × (Bool × Bool))
class_parts x = (x.has_basic, (x.has_x509, (x.lacks_basic, x.lacks_x509)))

abbrev class_of_parts : Bool × (Bool × (Bool × Bool)) → LeafClass
class_of_parts p = record { has_basic = p.0; has_x509 = p.1.0; lacks_basic = p.1.1.0; lacks_x509 = p.1.1.1 }

class_set : (x y : LeafClass) → IsProp (x ≡ y)
class_set x y =
    Coded-set (code_by (Bool × (Bool × (Bool × Bool))) (coded× coded_bool (coded× coded_bool (coded× coded_bool coded_bool))) class_parts class_of_parts (λ _. refl)) x y

-- `AreCountsOf` has at most one proof.
pub AreCountsOf-prop : (t : Tree) (c : CredentialCounts) → IsProp (AreCountsOf t c)
AreCountsOf-prop t c x y = λ i. record {
  counted = record { at = λ j. class_set (class_at c.classes.list.items j) (class_of (leaf_at 0 t j)) (x.counted.at j) (y.counted.at j) i };
  none_replaced = Coded-set coded_ℕ (length c.replaced.items) 0 x.none_replaced y.none_replaced i;
}

-- `CountBut node_indices t c`: the counts are those of the tree outside some node indices.
pub record CountBut (node_indices : List ℕ) (t : Tree) (c : CredentialCounts) : Type 0 where
  pub at : (i : ℕ) → list_any (λ p. p == 2 * i) node_indices ≡ false → class_at c.classes.list.items i ≡ class_of (leaf_at 0 t i)

-- `HasCapacityFor t c`: there is an entry for each leaf of the tree.
abbrev pub HasCapacityFor : Tree → CredentialCounts → Type 0
HasCapacityFor t c = leaf_count t ≤ length c.classes.list.items

-- `CountsFirst t n c`: the first n leaves of the tree are counted.
pub record CountsFirst (t : Tree) (n : ℕ) (c : CredentialCounts) : Type 0 where
  pub count : length c.classes.list.items ≡ n
  pub at : (i : ℕ) → i < n → class_at c.classes.list.items i ≡ class_of (leaf_at 0 t i)
  pub none_replaced : length c.replaced.items ≡ 0
