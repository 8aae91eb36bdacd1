-- The first leaf of a changed tree whose signature key another leaf has, found from the node indices that changed (RFC
-- 9420, 7.3). Used by contracts.
use Rattle.std.specs.Prelude.{◌≡◌, ◌≢◌, ◌⊎◌, ℕ, ◌*◌, List, true, Option, Some}
use Rattle.mls_tree.specs.Tree.{Tree}
use Rattle.mls_tree.specs.ChangedNodes.{AgreeExceptAt}
use Rattle.mls_check.specs.LeafValidation.{all_leaves, has_unique_signature_key, FindsFailing}
use Rattle.mls_index.specs.FirstIndex.{FindsFirst}
use Rattle.mls_index.specs.IncrementalCheck.{contains_node_index}
use Rattle.mls_index.specs.NodeKeys.{key_at_node}
use Rattle.mls_index.specs.declared.node_key.KeyKind.{KeyKind}
use Rattle.mls_index.specs.declared.node_key.KeyKind.TheVariants.{Signature}

-- `ShareKey kind t p q`: the nodes at two different node indices have the same key of a kind.
pub record ShareKey (kind : KeyKind) (t : Tree) (p q : ℕ) : Type 0 where
  pub key : List ℕ
  pub other : q ≢ p
  pub here : key_at_node kind t p ≡ Some key
  pub there : key_at_node kind t q ≡ Some key

-- `IsRepeatedAt node_indices t i`: another leaf has the signature key of leaf i, and one of the two is at one of these
-- node indices.
pub record IsRepeatedAt (node_indices : List ℕ) (t : Tree) (i : ℕ) : Type 0 where
  pub other : ℕ
  pub shared : ShareKey Signature t (2 * i) (2 * other)
  pub listed : (contains_node_index node_indices (2 * i) ≡ true) ⊎ (contains_node_index node_indices (2 * other) ≡ true)

-- `FindsRepeatedAt node_indices t o`: `o` is the smallest leaf index with `IsRepeatedAt`, or `None` if there is none.
abbrev pub FindsRepeatedAt : List ℕ → Tree → Option ℕ → Type 0
FindsRepeatedAt node_indices t o = FindsFirst (IsRepeatedAt node_indices t) o

-- If each leaf of a tree has a signature key of its own, the first leaf after a change whose signature key another leaf
-- has is the first of those that share one with a leaf at the changed node indices, or are there.
abbrev pub ChangedLeavesFindRepeated : Type 0
ChangedLeavesFindRepeated = (node_indices : List ℕ) (old new : Tree) → AgreeExceptAt node_indices old new → all_leaves (has_unique_signature_key old) 0 old ≡ true
    → (o : Option ℕ) → FindsRepeatedAt node_indices new o → FindsFailing (has_unique_signature_key new) new o
