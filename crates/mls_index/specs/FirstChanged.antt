-- The first leaf of a changed tree that fails a rule, among the leaves at the node indices that changed (RFC 9420, 7.3).
-- Used by contracts.
use Rattle.std.specs.Prelude.{◌≡◌, ℕ, ◌*◌, ◌<◌, nat_lt, if◌then◌else◌, List, Bool, true, false, Option, Some, None}
use Rattle.mls_nodes.specs.declared.context.GroupContext.{GroupContext}
use Rattle.mls_nodes.specs.declared.leaf.LeafNode.{LeafNode}
use Rattle.mls_nodes.specs.declared.required_capabilities.RequiredCapabilities.{RequiredCapabilities}
use Rattle.mls_tree.specs.Tree.{Tree, leaf_at}
use Rattle.mls_tree.specs.ChangedNodes.{AgreeExceptAt}
use Rattle.mls_check.specs.LeafValidation.{all_leaves, FindsFailing, supports_own_extensions, supports_required, is_leaf_signed}
use Rattle.mls_check.specs.Signatures.{VerifyFn}
use Rattle.mls_index.specs.IncrementalCheck.{contains_node_index}
use Rattle.mls_index.specs.declared.changed_leaves.LeafRule.{LeafRule}
use Rattle.mls_index.specs.declared.changed_leaves.LeafRule.TheVariants.{Extensions, Requirements, Signature}

-- `leaf_rule G context required rule i x`: the leaf `x` with leaf index i satisfies a rule that needs no other leaf (rules 1,
-- 2 and 5 of leaf node validation, RFC 9420, 7.3). `required` is what the group requires.
unfoldable pub leaf_rule : VerifyFn → GroupContext → RequiredCapabilities → LeafRule → ℕ → LeafNode → Bool
leaf_rule G context required Extensions i x = supports_own_extensions x
leaf_rule G context required Requirements i x = supports_required required x
leaf_rule G context required Signature i x = is_leaf_signed G context.cipher_suite context.group_id i x

-- `smaller o p` is the smaller one of two leaf indices, if there are any.
abbrev pub smaller : Option ℕ → Option ℕ → Option ℕ
smaller None p = p
smaller (Some i) None = Some i
smaller (Some i) (Some j) = if nat_lt j i then Some j else Some i

-- `FailsFirstAt test node_indices t i`: leaf i is at one of these node indices and fails the test, and no non-blank
-- leaf at one of them with a smaller index fails it.
pub record FailsFirstAt (test : ℕ → LeafNode → Bool) (node_indices : List ℕ) (t : Tree) (i : ℕ) : Type 0 where
  pub node : LeafNode
  pub listed : contains_node_index node_indices (2 * i) ≡ true
  pub set : leaf_at 0 t i ≡ Some node
  pub fails : test i node ≡ false
  pub smaller : (j : ℕ) (other : LeafNode) → j < i → contains_node_index node_indices (2 * j) ≡ true → leaf_at 0 t j ≡ Some other → test j other ≡ true

-- `FindsFailingAt test node_indices t o`: `o` is the smallest leaf index of a leaf at one of these node indices that
-- fails the test, or `None` if each non-blank leaf there passes it.
abbrev pub FindsFailingAt : (ℕ → LeafNode → Bool) → List ℕ → Tree → Option ℕ → Type 0
FindsFailingAt test node_indices t None = (i : ℕ) (x : LeafNode) → contains_node_index node_indices (2 * i) ≡ true → leaf_at 0 t i ≡ Some x → test i x ≡ true
FindsFailingAt test node_indices t (Some i) = FailsFirstAt test node_indices t i

-- If each leaf of a tree passes a test that needs no other leaf, the first leaf that fails it after a change is the first of
-- those at the changed node indices.
abbrev pub ChangedLeavesFindFailing : Type 0
ChangedLeavesFindFailing = (test : ℕ → LeafNode → Bool) (node_indices : List ℕ) (old new : Tree) → AgreeExceptAt node_indices old new → all_leaves test 0 old ≡ true
    → (o : Option ℕ) → FindsFailingAt test node_indices new o → FindsFailing test new o
