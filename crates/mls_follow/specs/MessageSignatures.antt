-- Which signatures have to be verified of a message in a state, and what the signatures of a start and of a message
-- determine (RFC 9420, 5.1.2, 6.1, 12.4.3.1).
-- Used by contracts. `G` and `K`: verification functions of checkers.
use Rattle.std.specs.Prelude.{◌≡◌, ℕ, if◌then◌else◌, List, [], Option}
use Rattle.mls_nodes.specs.declared.required_capabilities.RequiredCapabilities.{RequiredCapabilities}
use Rattle.mls_tree.specs.Tree.{Tree}
use Rattle.mls_tree.specs.RatchetTree.{RatchetTree}
use Rattle.mls_check.specs.LeafValidation.{LeavesAreValid}
use Rattle.mls_check.specs.Signatures.{VerifyFn, Extends}
use Rattle.mls_msgs.specs.declared.group_info.GroupInfo.{GroupInfo}
use Rattle.mls_msgs.specs.declared.profile.Profile.{Profile}
use Rattle.mls_msgs.specs.declared.message.Message.{Message}
use Rattle.mls_apply.specs.RuleLists.{first_failing}
use Rattle.mls_signatures.specs.AcceptedSignatures.{unaccepted}
use Rattle.mls_signatures.specs.Agreement.{AgreeOn}
use Rattle.mls_signatures.specs.SignaturesToVerify as lists
use Rattle.mls_signatures.specs.declared.signature_to_verify.SignatureToVerify.{SignatureToVerify}
use Rattle.mls_follow.specs.State.{State, EncodesMessage}
use Rattle.mls_follow.specs.StrictRules.{all_rules}
use Rattle.mls_follow.specs.Start.{UsesTree, IsStart, IsStartFault}
use Rattle.mls_follow.specs.declared.start_fault.StartFault.{StartFault}
use Rattle.mls_msgs.specs.declared.rules.Rules.{Rules}

-- `message_signatures_in_state s m` is the signatures of a message in the state `s`, without duplicates. Empty if the
-- group is over.
abbrev pub message_signatures_in_state : State → Message → List SignatureToVerify
message_signatures_in_state s m =
    if s.ended then [] else lists.message_signatures s.profile s.context s.known s.tree m

-- `fresh_signatures_in_state s m` is those of a message in the state `s` that no pending proposal has, without duplicates.
-- Empty if the group is over.
abbrev pub fresh_signatures_in_state : State → Message → List SignatureToVerify
fresh_signatures_in_state s m =
    if s.ended then [] else lists.fresh_message_signatures s.profile s.context s.known s.tree m

-- `state_signatures s` is the signatures of all leaves of the tree of `s`, from left to right (RFC 9420, 7.2).
abbrev pub state_signatures : State → List SignatureToVerify
state_signatures s = lists.tree_signatures s.context.cipher_suite s.context.group_id 0 s.tree

-- `AreSignaturesOf s bytes needed`: `bytes` encode a message, and `needed` are its signatures in the state `s`.
pub record AreSignaturesOf (s : State) (bytes : List ℕ) (needed : List SignatureToVerify) : Type 0 where
  pub message : Message
  pub encoded : EncodesMessage s.profile message bytes
  pub same : needed ≡ message_signatures_in_state s message

-- `AreFreshSignaturesOf s bytes needed`: `bytes` encode a message, and `needed` are those of its signatures in the state `s` that
-- no pending proposal has.
pub record AreFreshSignaturesOf (s : State) (bytes : List ℕ) (needed : List SignatureToVerify) : Type 0 where
  pub message : Message
  pub encoded : EncodesMessage s.profile message bytes
  pub same : needed ≡ fresh_signatures_in_state s message

-- `HaveUnacceptedOf G s bytes needed`: `bytes` encode a message, and of `needed` and of the message's signatures in the state `s`
-- the same ones are not accepted by G, in the same order.
pub record HaveUnacceptedOf (G : VerifyFn) (s : State) (bytes : List ℕ) (needed : List SignatureToVerify) : Type 0 where
  pub message : Message
  pub encoded : EncodesMessage s.profile message bytes
  pub same : unaccepted G needed ≡ unaccepted G (message_signatures_in_state s message)

-- `AgreeOnStart G K info supplied`: `G` and `K` agree on the signatures of a start, for each tree that it may use.
abbrev pub AgreeOnStart : VerifyFn → VerifyFn → GroupInfo → Option RatchetTree → Type 0
AgreeOnStart G K info supplied =
    (t : RatchetTree) → UsesTree supplied info.extensions t → AgreeOn G K (lists.start_signatures info t.tree)

-- ---- theorems

-- The signatures of a message, and those of the leaves of the state's tree, determine which rule the message fails first.
abbrev pub SignaturesDetermineRefusal : Type 0
SignaturesDetermineRefusal =
    (G K : VerifyFn) (s : State) (required : RequiredCapabilities) (m : Message)
    → AgreeOn G K (message_signatures_in_state s m)
    → AgreeOn G K (state_signatures s)
    → first_failing (all_rules G s required m) ≡ first_failing (all_rules K s required m)

-- The signatures of a start determine whether a follower starts, and in which state.
abbrev pub SignaturesDetermineStart : Type 0
SignaturesDetermineStart =
    (asked : Rules) (profile : Profile) (G K : VerifyFn) (info : GroupInfo) (supplied : Option RatchetTree) (s : State)
    → AgreeOnStart G K info supplied → IsStart asked profile G info supplied s → IsStart asked profile K info supplied s

-- The signatures of a start determine why no follower starts.
abbrev pub SignaturesDetermineStartFault : Type 0
SignaturesDetermineStartFault =
    (asked : Rules) (G K : VerifyFn) (info : GroupInfo) (supplied : Option RatchetTree) (fault : StartFault)
    → AgreeOnStart G K info supplied → IsStartFault asked G info supplied fault
    → IsStartFault asked K info supplied fault

-- Leaf nodes that are valid remain valid if more signatures are good (RFC 9420, 7.3).
abbrev pub MembersStay : Type 0
MembersStay =
    (G K : VerifyFn) (suite : ℕ) (group_id : List ℕ) (required : RequiredCapabilities) (t : Tree)
    → Extends G K → LeavesAreValid G suite group_id required t → LeavesAreValid K suite group_id required t
