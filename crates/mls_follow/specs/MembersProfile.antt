-- The members' profile: without the proposals psk, reinit and external_init, and without senders outside the group (own
-- rule). No follower with this profile refuses a message by the rules for them. G is the verification function of the
-- checker, `s` the state. Used by contracts.
use Rattle.std.specs.Prelude.{◌≡◌, ℕ, not, List, filter, All, Bool, true, false, Option}
use Rattle.mls_nodes.specs.declared.required_capabilities.RequiredCapabilities.{RequiredCapabilities}
use Rattle.mls_tree.specs.RatchetTree.{RatchetTree}
use Rattle.mls_check.specs.Signatures.{VerifyFn}
use Rattle.mls_msgs.specs.Layout.{is_member}
use Rattle.mls_msgs.specs.Profile.{is_members_proposal}
use Rattle.mls_msgs.specs.declared.group_info.GroupInfo.{GroupInfo}
use Rattle.mls_msgs.specs.declared.message.Message.{Message}
use Rattle.mls_msgs.specs.declared.profile.Profile.TheVariants.{Members}
use Rattle.mls_apply.specs.declared.list_item.KnownProposal.{KnownProposal}
use Rattle.mls_apply.specs.declared.refusal.Refusal.{Refusal}
use Rattle.mls_apply.specs.declared.refusal.Refusal.TheVariants.{GroupOver, UnknownExternal, SenderContent, PskInvalid, ReInitInvalid, ExternalInitMisplaced, PskTwice, ReInitNotAlone, JoinList, ResyncInvalid}
use Rattle.mls_apply.specs.RuleLists.{Rule, first_failing}
use Rattle.mls_follow.specs.State.{State, EncodesMessage}
use Rattle.mls_follow.specs.Acceptance.{IsAcceptable, IsNext}
use Rattle.mls_follow.specs.MessageRules.{message_rules}
use Rattle.mls_follow.specs.NextState.{Transition}
use Rattle.mls_follow.specs.Resumption.{IsResumed}
use Rattle.mls_follow.specs.Start.{IsStart}
use Rattle.mls_msgs.specs.declared.rules.Rules.{Rules}

-- `IsOfMember k`: the pending proposal is in the members' profile, and its sender is a member.
pub record IsOfMember (k : KnownProposal) : Type 0 where
  pub proposal : is_members_proposal k.proposal ≡ true
  pub sender : is_member k.sender ≡ true

-- `IsMembersState s`: the state is one of the members' profile. The group goes on, and each pending proposal is in the
-- profile and from a member.
pub record IsMembersState (s : State) : Type 0 where
  pub profile : s.profile ≡ Members
  pub going : s.ended ≡ false
  pub known : All IsOfMember s.known

-- `is_of_full_profile e`: the refusal is by a rule for a group that is over, for senders outside the group, for PreSharedKey,
-- ReInit and ExternalInit, or for external commits.
abbrev pub is_of_full_profile : Refusal → Bool
is_of_full_profile GroupOver = true
is_of_full_profile UnknownExternal = true
is_of_full_profile SenderContent = true
is_of_full_profile PskInvalid = true
is_of_full_profile ReInitInvalid = true
is_of_full_profile ExternalInitMisplaced = true
is_of_full_profile PskTwice = true
is_of_full_profile ReInitNotAlone = true
is_of_full_profile JoinList = true
is_of_full_profile ResyncInvalid = true
is_of_full_profile _ = false

-- `is_members_rule r`: the rule is none that only the full profile needs.
abbrev pub is_members_rule : Rule Refusal → Bool
is_members_rule r = not (is_of_full_profile r.refusal)

-- ---- theorems

-- In the members' profile the rules that only the full profile needs always hold: the first rule that fails is one of the
-- others.
abbrev pub MembersRulesDecide : Type 0
MembersRulesDecide =
    (G : VerifyFn) (s : State) (required : RequiredCapabilities) (m : Message) (bytes : List ℕ)
    → IsMembersState s → EncodesMessage Members m bytes
    → first_failing (message_rules G s required m)
    ≡ first_failing (filter is_members_rule (message_rules G s required m))

-- The state after an acceptable message is again one of the members' profile.
abbrev pub MembersStatesStay : Type 0
MembersStatesStay =
    (G : VerifyFn) (s : State) (bytes : List ℕ) (step : Transition) → IsMembersState s → IsAcceptable G s bytes
    → IsNext s bytes step → IsMembersState step.state

-- A follower that starts in the members' profile starts in such a state.
abbrev pub MembersStart : Type 0
MembersStart =
    (asked : Rules) (G : VerifyFn) (info : GroupInfo) (supplied : Option RatchetTree) (s : State) → IsStart asked Members G info supplied s
    → IsMembersState s

-- A follower that resumes in the members' profile resumes in such a state.
abbrev pub MembersResume : Type 0
MembersResume = (G : VerifyFn) (bytes : List ℕ) (s : State) → IsResumed G bytes s → s.profile ≡ Members → IsMembersState s
