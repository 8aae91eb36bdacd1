-- What is found of the bytes of a GroupContext and of its ratchet tree (RFC 9420, 12.4.3.1). G is the verification
-- function of the checker. Used by contracts.
use Rattle.std.specs.Prelude.{ℕ, ◌≤◌, List, length, Some, ◌≡◌, ◌≢◌}
use Rattle.mls_wire.specs.Limits.{input_limit}
use Rattle.mls_nodes.specs.Layout.{group_context}
use Rattle.mls_nodes.specs.declared.context.GroupContext.{GroupContext}
use Rattle.mls_nodes.specs.declared.fault.NodeFault.TheVariants as nodes
use Rattle.mls_nodes.specs.declared.required_capabilities.RequiredCapabilities.{RequiredCapabilities}
use Rattle.mls_tree.specs.RatchetTree.{RatchetTree}
use Rattle.mls_tree.specs.TreeDecoding.{IsTreeOf, IsNoTree}
use Rattle.mls_check.specs.GroupTree.{IsSupportedContext, HasMembers, FailsSuite, FailsRequirements, FailsValid, FailsMembers}
use Rattle.mls_check.specs.Signatures.{VerifyFn}
use Rattle.mls_msgs.specs.declared.rules.Rules.{Rules}
use Rattle.mls_strict.specs.StrictTrees.{IsStrict, IsStrictFault}
use Rattle.mls_start.specs.declared.finding.Finding.{Finding}
use Rattle.mls_start.specs.declared.finding.Finding.TheVariants.{ContextUnreadable, TreeUnreadable, UnsupportedVersion, UnsupportedSuite, RequirementsUnreadable, TreeRefused, MembersRefused, TreeNotStrict, TreeValid}

-- `IsContext bytes c`: the bytes are the encoding of the GroupContext, within the limit of an input (RFC 9420, 8.1).
pub record IsContext (bytes : List ℕ) (c : GroupContext) : Type 0 where
  pub encoded : group_context c ≡ Some bytes
  pub bounded : length bytes ≤ input_limit

-- `IsNoContext bytes`: the bytes are no GroupContext.
abbrev pub IsNoContext : List ℕ → Type 0
IsNoContext bytes = (c : GroupContext) → IsContext bytes c → ⊥

-- ---- what is found of a context and a tree

-- `IsTreeFinding asked G context_bytes tree_bytes finding`: the first finding that applies, or that the tree is valid for the
-- context, its leaf nodes are valid, and both meet the strict rules that are asked, with the tree hash, which is that of the
-- context (RFC 9420, 12.4.3.1).
abbrev pub IsTreeFinding : Rules → VerifyFn → List ℕ → List ℕ → Finding → Type 0
IsTreeFinding asked G context_bytes tree_bytes (ContextUnreadable fault) = IsNoContext context_bytes
IsTreeFinding asked G context_bytes tree_bytes UnsupportedVersion =
    (c : GroupContext) × IsContext context_bytes c × (c.version ≢ 1)
IsTreeFinding asked G context_bytes tree_bytes UnsupportedSuite =
    (c : GroupContext) × IsContext context_bytes c × FailsSuite c
IsTreeFinding asked G context_bytes tree_bytes (TreeUnreadable fault) =
    (c : GroupContext) × IsContext context_bytes c × IsSupportedContext c
    × IsNoTree tree_bytes × (fault ≢ nodes.OutOfMemory)
IsTreeFinding asked G context_bytes tree_bytes RequirementsUnreadable =
    (c : GroupContext) × IsContext context_bytes c × FailsRequirements c (IsTreeOf tree_bytes)
IsTreeFinding asked G context_bytes tree_bytes (TreeRefused fault) =
    (c : GroupContext) × IsContext context_bytes c × FailsValid c (IsTreeOf tree_bytes) fault
IsTreeFinding asked G context_bytes tree_bytes (MembersRefused fault) =
    (c : GroupContext) × IsContext context_bytes c × FailsMembers G c (IsTreeOf tree_bytes) fault
IsTreeFinding asked G context_bytes tree_bytes (TreeNotStrict fault) =
    (c : GroupContext) × (t : RatchetTree) × (required : RequiredCapabilities)
    × IsContext context_bytes c × HasMembers G c (IsTreeOf tree_bytes) t required × IsStrictFault asked c t.tree fault
IsTreeFinding asked G context_bytes tree_bytes (TreeValid tree_hash) =
    (c : GroupContext) × (t : RatchetTree) × (required : RequiredCapabilities)
    × IsContext context_bytes c × HasMembers G c (IsTreeOf tree_bytes) t required × IsStrict asked c t.tree
    × (tree_hash ≡ c.tree_hash)
IsTreeFinding asked G context_bytes tree_bytes _ = ⊥
