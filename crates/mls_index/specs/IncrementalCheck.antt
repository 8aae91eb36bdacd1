-- A tree after a change, if the tree before had distinct encryption keys and valid leaf nodes: what has to be checked
-- at the changed node indices so that the tree after has (RFC 9420, 7.3 and 12.4.2). Used by contracts.
use Rattle.std.specs.Prelude.{◌≡◌, ◌↔◌, ℕ, ◌*◌, ◌==◌, List, Bool, Some, true}
use Rattle.std.specs.List.{list_any}
use Rattle.mls_nodes.specs.declared.leaf.LeafNode.{LeafNode}
use Rattle.mls_nodes.specs.declared.required_capabilities.RequiredCapabilities.{RequiredCapabilities}
use Rattle.mls_tree.specs.Tree.{Tree, leaf_at}
use Rattle.mls_tree.specs.ChangedNodes.{AgreeExceptAt}
use Rattle.mls_check.specs.DistinctKeys.{IsDistinct}
use Rattle.mls_check.specs.LeafValidation.{all_leaves, supports_own_extensions, supports_required, supports_used_credentials, is_leaf_signed, LeavesAreValid}
use Rattle.mls_check.specs.Signatures.{VerifyFn}
use Rattle.mls_index.specs.NodeKeys.{IsUniqueKey}
use Rattle.mls_index.specs.declared.node_key.KeyKind.{KeyKind}
use Rattle.mls_index.specs.declared.node_key.KeyKind.TheVariants.{Encryption, Signature}

-- `contains_node_index node_indices p`: the node index is in the list.
abbrev pub contains_node_index : List ℕ → ℕ → Bool
contains_node_index node_indices p = list_any (λ q. q == p) node_indices

-- `AreUniqueKeys kind node_indices t`: no other node has the key of a node at one of these node indices.
abbrev pub AreUniqueKeys : KeyKind → List ℕ → Tree → Type 0
AreUniqueKeys kind node_indices t = (p : ℕ) → contains_node_index node_indices p ≡ true → IsUniqueKey kind t p

-- If the encryption keys of `old` are distinct, those of `new` are if and only if no other node has the key of a
-- changed node.
abbrev pub ChangedNodesDecideKeys : Type 0
ChangedNodesDecideKeys = (node_indices : List ℕ) (old new : Tree) → AgreeExceptAt node_indices old new → IsDistinct old
    → IsDistinct new ↔ AreUniqueKeys Encryption node_indices new

-- `SatisfiesLeafRules G suite group_id required i x`: the leaf satisfies the rules that need no other leaf. It supports
-- its extensions and what the group requires, and is signed (rules 1, 2 and 5 of leaf node validation, RFC 9420, 7.3).
pub record SatisfiesLeafRules (G : VerifyFn) (suite : ℕ) (group_id : List ℕ) (required : RequiredCapabilities) (i : ℕ) (x : LeafNode) : Type 0 where
  pub extensions : supports_own_extensions x ≡ true
  pub requirements : supports_required required x ≡ true
  pub signed : is_leaf_signed G suite group_id i x ≡ true

-- `LeavesSatisfyRules G suite group_id required node_indices t`: each non-blank leaf at one of these node indices
-- satisfies these rules.
abbrev pub LeavesSatisfyRules : VerifyFn → ℕ → List ℕ → RequiredCapabilities → List ℕ → Tree → Type 0
LeavesSatisfyRules G suite group_id required node_indices t =
    (i : ℕ) (x : LeafNode) → contains_node_index node_indices (2 * i) ≡ true → leaf_at 0 t i ≡ Some x → SatisfiesLeafRules G suite group_id required i x

-- `SupportCredentials t`: each leaf supports the credential types of all leaves (rule 3, RFC 9420, 7.3).
abbrev pub SupportCredentials : Tree → Type 0
SupportCredentials t = all_leaves (λ _ x. supports_used_credentials t x) 0 t ≡ true

-- `AreNewMembers G suite group_id required node_indices t`: what has to be checked of the changed leaves, and of the
-- credential types.
pub record AreNewMembers (G : VerifyFn) (suite : ℕ) (group_id : List ℕ) (required : RequiredCapabilities) (node_indices : List ℕ) (t : Tree) : Type 0 where
  pub own : LeavesSatisfyRules G suite group_id required node_indices t
  pub keys : AreUniqueKeys Signature node_indices t
  pub credentials : SupportCredentials t

-- If the leaf nodes of `old` are valid, those of `new` are if and only if `AreNewMembers` holds.
abbrev pub ChangedLeavesDecideValidity : Type 0
ChangedLeavesDecideValidity = (G : VerifyFn) (suite : ℕ) (group_id : List ℕ) (required : RequiredCapabilities) (node_indices : List ℕ) (old new : Tree)
    → AgreeExceptAt node_indices old new → LeavesAreValid G suite group_id required old
    → LeavesAreValid G suite group_id required new ↔ AreNewMembers G suite group_id required node_indices new
