-- Profiles (own rule), and the values in each profile. Used by contracts.
use Rattle.std.specs.Prelude.{ℕ, List, [], ◌∷◌, Bool, true, false, ◌&&◌, Option, None, Result, Ok, Err, if◌then◌else◌}
use Rattle.mls_wire.specs.declared.fault.WireFault.{WireFault}
use Rattle.mls_wire.specs.declared.fault.CodecFault.{CodecFault}
use Rattle.mls_wire.specs.declared.fault.CodecFault.TheVariants.{Wire}
use Rattle.mls_msgs.specs.Layout.{proposal}
use Rattle.mls_msgs.specs.Authenticated.{authenticated_content}
use Rattle.mls_msgs.specs.Message.{message}
use Rattle.mls_msgs.specs.declared.profile.Profile.{Profile}
use Rattle.mls_msgs.specs.declared.profile.Profile.TheVariants.{Members, Full}
use Rattle.mls_msgs.specs.declared.proposal.Proposal.{Proposal}
use Rattle.mls_msgs.specs.declared.proposal.Proposal.TheVariants as proposals
use Rattle.mls_msgs.specs.declared.proposal.ProposalOrRef.{ProposalOrRef}
use Rattle.mls_msgs.specs.declared.proposal.ProposalOrRef.TheVariants as entries
use Rattle.mls_msgs.specs.declared.framed_content.Content.{Content}
use Rattle.mls_msgs.specs.declared.framed_content.Content.TheVariants as contents
use Rattle.mls_msgs.specs.declared.authenticated.AuthenticatedParts.{AuthenticatedParts}
use Rattle.mls_msgs.specs.declared.message.Message.{Message}
use Rattle.mls_msgs.specs.declared.message.Message.TheVariants as messages

-- `is_members_proposal p` is true if and only if the type of the proposal `p` is none of psk 4, reinit 5 and
-- external_init 6 (RFC 9420, 12.1).
abbrev pub is_members_proposal : Proposal → Bool
is_members_proposal (proposals.Add _) = true
is_members_proposal (proposals.Update _) = true
is_members_proposal (proposals.Remove _) = true
is_members_proposal (proposals.PreSharedKey _) = false
is_members_proposal (proposals.ReInit _) = false
is_members_proposal (proposals.ExternalInit _) = false
is_members_proposal (proposals.ContextExtensions _) = true

-- `is_members_entry e` is true if and only if the entry `e` of a proposal list (12.4) is a reference, or a proposal in the
-- members' profile.
abbrev pub is_members_entry : ProposalOrRef → Bool
is_members_entry (entries.Proposal p) = is_members_proposal p
is_members_entry (entries.Reference _) = true

-- `are_members_entries es` is true if and only if each entry of `es` is in the members' profile.
abbrev pub are_members_entries : List ProposalOrRef → Bool
are_members_entries [] = true
are_members_entries (e ∷ es) = is_members_entry e && are_members_entries es

-- `is_members_content c` is true if and only if the content `c` (6) is application data, a proposal in the members'
-- profile, or a commit each of whose entries is.
abbrev pub is_members_content : Content → Bool
is_members_content (contents.Application _) = true
is_members_content (contents.Proposal p) = is_members_proposal p
is_members_content (contents.Commit c) = are_members_entries c.proposals

-- `is_members_authenticated a` is true if and only if the content of the AuthenticatedContent `a` (6) is in the members'
-- profile.
abbrev pub is_members_authenticated : AuthenticatedParts → Bool
is_members_authenticated a = is_members_content a.content.content

-- `is_members_message m` is true if and only if the message `m` (6) is no PublicMessage, or one whose content is in the
-- members' profile.
abbrev pub is_members_message : Message → Bool
is_members_message (messages.Public m) = is_members_authenticated m.auth
is_members_message (messages.Unread _ _) = true
is_members_message (messages.GroupInfo _) = true
is_members_message (messages.KeyPackage _) = true

-- `is_in profile b` is true if and only if a value is in `profile`, where `b` says whether it is in the members' profile.
-- Each value is in the full profile.
abbrev pub is_in : Profile → Bool → Bool
is_in Members b = b
is_in Full b = true

-- `tested test encoding x` is the encoding of `x` by `encoding`, if `test x` is true.
abbrev pub tested : {A : Type 0} → (A → Bool) → (A → Option (List ℕ)) → A → Option (List ℕ)
tested test encoding x = if test x then encoding x else None

-- `proposal_in profile p` is the encoding of the proposal `p`, if it is in `profile`.
unfoldable pub proposal_in : Profile → Proposal → Option (List ℕ)
proposal_in profile p = tested (λ x. is_in profile (is_members_proposal x)) proposal p

-- `authenticated_in profile a` is the encoding of the AuthenticatedContent `a`, if it is in `profile`.
unfoldable pub authenticated_in : Profile → AuthenticatedParts → Option (List ℕ)
authenticated_in profile a = tested (λ x. is_in profile (is_members_authenticated x)) authenticated_content a

-- `message_in profile m` is the encoding of the message `m`, if it is in `profile`.
unfoldable pub message_in : Profile → Message → Option (List ℕ)
message_in profile m = tested (λ x. is_in profile (is_members_message x)) message m

-- `fault_among profile checked otherwise` is the fault of bytes that are refused in `profile`, where `checked` is what a
-- reader found who looks for a type outside the members' profile: the fault that it found, in the members' profile, else
-- `otherwise`.
abbrev pub fault_among : {A : Type 0} → Profile → Result A CodecFault → WireFault → CodecFault
fault_among Members (Err fault) otherwise = fault
fault_among Members (Ok _) otherwise = Wire otherwise
fault_among Full checked otherwise = Wire otherwise
