-- For any arguments there is a result other than out of memory: a value that a call returns, or an error. Used by
-- contracts.
use Rattle.std.specs.Prelude.{◌≡◌, ◌≢◌, ◌⊎◌, ℕ, Bool, List, All, IsSome, Some, None}
use Rattle.mls_wire.specs.Encoding.{vector}
use Rattle.mls_nodes.specs.declared.context.GroupContext.{GroupContext}
use Rattle.mls_tree.specs.Tree.{Tree}
use Rattle.mls_tree.specs.TreeHash.{tree_hash}
use Rattle.mls_check.specs.Signatures.{VerifyFn}
use Rattle.mls_msgs.specs.declared.commit.UpdatePath.{UpdatePath}
use Rattle.mls_msgs.specs.declared.framed_content.Sender.{Sender}
use Rattle.mls_msgs.specs.declared.proposal.Proposal.{Proposal}
use Rattle.mls_msgs.specs.declared.proposal.ProposalOrRef.{ProposalOrRef}
use Rattle.mls_apply.specs.declared.fault.ApplyFault.{ApplyFault}
use Rattle.mls_apply.specs.declared.fault.ApplyFault.TheVariants.{TooManyLeaves, NoSuchLeaf}
use Rattle.mls_apply.specs.declared.list_item.ListItem.{ListItem}
use Rattle.mls_apply.specs.declared.list_item.KnownProposal.{KnownProposal}
use Rattle.mls_apply.specs.declared.refusal.Refusal.{Refusal}
use Rattle.mls_apply.specs.declared.refusal.Refusal.TheVariants.{UnknownReference, OutOfMemory}
use Rattle.mls_apply.specs.ResolvedList.{resolved}
use Rattle.mls_apply.specs.ListRules.{list_refusal}
use Rattle.mls_apply.specs.ProposalRules.{checked_refusal}
use Rattle.mls_apply.specs.AppliedList.{AppliedTree, without_adds, outcome}
use Rattle.mls_apply.specs.PathRules.{keys_refusal, path_refusal, node_keys}
use Rattle.mls_apply.specs.MergePath.{expected_hashes, merged}

-- `HasResult Right Wrong`: there is a right value, or a right refusal that is not OutOfMemory.
abbrev pub HasResult : {A : Type 0} → (A → Type 0) → (Refusal → Type 0) → Type 0
HasResult {A} Right Wrong = ((x : A) × Right x) ⊎ ((e : Refusal) × (e ≢ OutOfMemory) × Wrong e)

-- The entries of a commit are resolved, or a reference is unknown (RFC 9420, 12.4).
abbrev pub ItemsExists : Type 0
ItemsExists =
    (committer : Sender) (known : List KnownProposal) (entries : List ProposalOrRef)
    → HasResult (λ items. resolved committer known entries ≡ Some items)
    (λ e. (e ≡ UnknownReference) × (resolved committer known entries ≡ None))

-- A list satisfies the rules for lists, or fails one (RFC 9420, 12.2 and 12.4).
abbrev pub ListAnswerExists : Type 0
ListAnswerExists =
    (committer : Sender) (items : List ListItem) (has_path : Bool)
    → HasResult (λ (_ : Unit {0}). list_refusal committer items has_path ≡ None)
    (λ e. list_refusal committer items has_path ≡ Some e)

-- A proposal satisfies the rules for proposals, or fails one (RFC 9420, 12.1).
abbrev pub ProposalAnswerExists : Type 0
ProposalAnswerExists =
    (G : VerifyFn) (context : GroupContext) (t : Tree) (sender : Sender) (p : Proposal)
    → HasResult (λ (_ : Unit {0}). checked_refusal G context t sender p ≡ None)
    (λ e. checked_refusal G context t sender p ≡ Some e)

-- `FailsList items t e`: the list cannot be applied for this fault. A leaf is blank when it is updated or removed, or an
-- Update is from no member; or there are too many members (RFC 9420, 12.3).
abbrev pub FailsList : List ListItem → Tree → ApplyFault → Type 0
FailsList items t e =
    ((e ≡ NoSuchLeaf) × (without_adds items t ≡ None))
    ⊎ ((e ≡ TooManyLeaves) × IsSome (without_adds items t) × (outcome items t ≡ None))

-- A list can be applied, or has one of these two faults.
abbrev pub OutcomeExists : Type 0
OutcomeExists =
    (items : List ListItem) (t : Tree)
    → ((g : AppliedTree) × (outcome items t ≡ Some g)) ⊎ ((e : ApplyFault) × FailsList items t e)

-- If the hashes of H have encodings and the tree has a tree hash, then keys that have encodings and the right number
-- have expected parent hashes (RFC 9420, 7.9).
abbrev pub HashesExists : Type 0
HashesExists =
    (H : List ℕ → List ℕ) (t : Tree) (committer : ℕ) (keys : List (List ℕ))
    → ((m : List ℕ) → IsSome (vector (H m))) → IsSome (tree_hash H 0 t)
    → All (λ k. IsSome (vector k)) keys
    → HasResult (λ hashes. (keys_refusal t committer keys ≡ None)
    × (expected_hashes H t committer keys ≡ Some hashes))
    (λ e. keys_refusal t committer keys ≡ Some e)

-- A path that satisfies the rules for paths is merged (RFC 9420, 7.5).
abbrev pub MergeExists : Type 0
MergeExists =
    (H : List ℕ → List ℕ) (g : AppliedTree) (committer : ℕ) (path : UpdatePath)
    → HasResult (λ new. (path_refusal H g committer path ≡ None)
    × (merged H g.tree committer path.leaf_node (node_keys path) ≡ Some new))
    (λ e. path_refusal H g committer path ≡ Some e)
