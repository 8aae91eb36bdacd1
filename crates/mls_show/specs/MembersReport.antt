-- The report `show members`. `bytes` is the input, `text` the report. Used by contracts.
use Rattle.std.specs.Prelude.{ℕ, List, [], ◌∷◌, take, length, codes, Bool, true, false, Option, Some, None, ◌≡◌, ◌⊎◌}
use Rattle.std.specs.Str.{bytes_eq}
use Rattle.mls_nodes.specs.NodeModel.{NodeValue}
use Rattle.mls_nodes.specs.RatchetTreeEncoding.{filled}
use Rattle.mls_nodes.specs.Requirements.{extension_of}
use Rattle.mls_tree.specs.TreeDecoding.{IsTree}
use Rattle.mls_msgs.specs.declared.message.Message.{Message}
use Rattle.mls_msgs.specs.declared.message.Message.TheVariants as messages
use Rattle.mls_msgs.specs.declared.profile.Profile.TheVariants.{Members}
use Rattle.mls_state.specs.declared.state.FollowerState.{FollowerState}
use Rattle.mls_show.specs.InputReports.{IsMessage, IsNoMessageReport, IsNoTreeReport}
use Rattle.mls_show.specs.MembersText.{members_text}
use Rattle.mls_show.specs.StateReport.{IsDamagedReport, IsNoStateReport, IsStateWith}
use Rattle.mls_show.specs.declared.verdict.Verdict.{Verdict}
use Rattle.mls_show.specs.declared.verdict.Verdict.TheVariants.{Yes, No}

-- `begins_with front bytes`: the bytes begin with those of `front`.
abbrev pub begins_with : List ℕ → List ℕ → Bool
begins_with front bytes = bytes_eq front (take (length front) bytes)

-- `begins_as_info bytes`: the bytes begin as a GroupInfo in its MLSMessage does: version 1, wire format 4 (RFC 9420, 6).
abbrev pub begins_as_info : List ℕ → Bool
begins_as_info bytes = begins_with (0 ∷ 1 ∷ 0 ∷ 4 ∷ []) bytes

-- `begins_as_state bytes`: the bytes begin as the file of a state does: version 2, and the length of the checksum (own
-- layout).
abbrev pub begins_as_state : List ℕ → Bool
begins_as_state bytes = begins_with (0 ∷ 2 ∷ 32 ∷ []) bytes

-- `IsShownTree bytes text verdict`: the report of the members of a tree.
pub record IsShownTree (bytes text : List ℕ) (verdict : Verdict) : Type 0 where
  pub nodes : List (Option NodeValue)
  pub is_tree : IsTree bytes nodes
  pub text_is : text ≡ members_text (filled nodes)
  pub verdict_is : verdict ≡ Yes

-- `IsTreeMembers bytes text verdict`: the report of the members of a tree, or of bytes that are none.
abbrev pub IsTreeMembers : List ℕ → List ℕ → Verdict → Type 0
IsTreeMembers bytes text verdict = IsShownTree bytes text verdict ⊎ IsNoTreeReport bytes text verdict

-- `ExtensionMembers data text verdict`: the report of the members of the tree in the data of a ratchet_tree extension (RFC
-- 9420, 12.4.3.3), or that there is no such extension.
abbrev pub ExtensionMembers : Option (List ℕ) → List ℕ → Verdict → Type 0
ExtensionMembers None text verdict = (text ≡ codes "unreadable NoTree\n") × (verdict ≡ No)
ExtensionMembers (Some body) text verdict = IsTreeMembers body text verdict

-- `MessageMembers m text verdict`: the report of the members of the tree that a GroupInfo has in its first ratchet_tree
-- extension, or that the message is no GroupInfo.
abbrev pub MessageMembers : Message → List ℕ → Verdict → Type 0
MessageMembers (messages.GroupInfo info) text verdict = ExtensionMembers (extension_of 2 info.extensions) text verdict
MessageMembers other text verdict = (text ≡ codes "unreadable NotGroupInfo\n") × (verdict ≡ No)

-- `IsShownInfo bytes text verdict`: the report of the members of a GroupInfo.
pub record IsShownInfo (bytes text : List ℕ) (verdict : Verdict) : Type 0 where
  pub sent : Message
  pub is_message : IsMessage bytes sent
  pub report : MessageMembers sent text verdict

-- `IsInfoMembers bytes text verdict`: the report of the members of a GroupInfo, or of bytes that are no message.
abbrev pub IsInfoMembers : List ℕ → List ℕ → Verdict → Type 0
IsInfoMembers bytes text verdict = IsShownInfo bytes text verdict ⊎ IsNoMessageReport Members bytes text verdict

-- `AreShownMembers bytes text verdict`: the report of the members of the state in a file.
pub record AreShownMembers (bytes text : List ℕ) (verdict : Verdict) : Type 0 where
  pub state : FollowerState
  pub nodes : List (Option NodeValue)
  pub is_state : IsStateWith bytes state nodes
  pub text_is : text ≡ members_text (filled nodes)
  pub verdict_is : verdict ≡ Yes

-- `IsStateMembers bytes text verdict`: the report of the members of the state in a file, or of bytes that are none.
abbrev pub IsStateMembers : List ℕ → List ℕ → Verdict → Type 0
IsStateMembers bytes text verdict =
    AreShownMembers bytes text verdict ⊎ (IsDamagedReport bytes text verdict ⊎ IsNoStateReport bytes text verdict)

-- `MembersBy info state bytes text verdict`: the report of the members of a GroupInfo, of the file of a state, or of a tree,
-- by whether the bytes begin as a GroupInfo, and whether as the file of a state.
abbrev pub MembersBy : Bool → Bool → List ℕ → List ℕ → Verdict → Type 0
MembersBy true state bytes text verdict = IsInfoMembers bytes text verdict
MembersBy false true bytes text verdict = IsStateMembers bytes text verdict
MembersBy false false bytes text verdict = IsTreeMembers bytes text verdict

-- `IsMembersReport bytes text verdict`: the report of the members of what the bytes begin as.
abbrev pub IsMembersReport : List ℕ → List ℕ → Verdict → Type 0
IsMembersReport bytes text verdict = MembersBy (begins_as_info bytes) (begins_as_state bytes) bytes text verdict
