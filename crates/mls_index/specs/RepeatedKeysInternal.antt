-- The first node with a key, and the first other node with the key of a node. Internal: no public contract uses this.
use Rattle.std.specs.Prelude.{◌≡◌, ◌≢◌, ℕ, ◌<◌, List, Option, Some, None}
use Rattle.mls_tree.specs.Tree.{Tree}
use Rattle.mls_index.specs.FirstIndex.{FindsFirst}
use Rattle.mls_index.specs.NodeKeys.{key_at_node}
use Rattle.mls_index.specs.RepeatedKeys.{ShareKey}
use Rattle.mls_index.specs.declared.node_key.KeyKind.{KeyKind}

-- `FindsOther kind t p o`: `o` is the smallest node index of another node with the key of the node at p, or `None` if
-- there is no other.
abbrev pub FindsOther : KeyKind → Tree → ℕ → Option ℕ → Type 0
FindsOther kind t p o = FindsFirst (ShareKey kind t p) o

-- `HasKeyBut kind t key but p`: the tree has the key at the node index p, which is not `but`.
pub record HasKeyBut (kind : KeyKind) (t : Tree) (key : List ℕ) (but : Option ℕ) (p : ℕ) : Type 0 where
  pub other : but ≢ Some p
  pub there : key_at_node kind t p ≡ Some key

-- `IsLeastAmong E P i`: i has the property P, and no smaller number has the properties E and P.
pub record IsLeastAmong (E P : ℕ → Type 0) (i : ℕ) : Type 0 where
  pub holds : P i
  pub smaller : (j : ℕ) → j < i → E j → ¬ P j

-- `FindsAmong E P o`: `o` is a number with the property P, and no smaller number has the properties E and P, or `None`
-- if no number has both.
abbrev pub FindsAmong : (ℕ → Type 0) → (ℕ → Type 0) → Option ℕ → Type 0
FindsAmong E P None = (i : ℕ) → E i → ¬ P i
FindsAmong E P (Some i) = IsLeastAmong E P i
