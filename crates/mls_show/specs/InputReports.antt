-- Inputs that can be read, and the reports of those that cannot. `bytes` is the input, `text` the report. Used by contracts.
use Rattle.std.specs.Prelude.{ℕ, ◌≤◌, List, ◌++◌, length, codes, Some, ◌≡◌, ◌⊎◌}
use Rattle.mls_wire.specs.Limits.{input_limit}
use Rattle.mls_tree.specs.TreeDecoding.{IsNoTree}
use Rattle.mls_msgs.specs.Profile.{message_in}
use Rattle.mls_msgs.specs.declared.message.Message.{Message}
use Rattle.mls_msgs.specs.declared.profile.Profile.{Profile}
use Rattle.mls_msgs.specs.declared.profile.Profile.TheVariants.{Members}
use Rattle.mls_show.specs.MessageText.{message_line}
use Rattle.mls_show.specs.ValueTexts.{IsOneLine}
use Rattle.mls_show.specs.declared.verdict.Verdict.{Verdict}
use Rattle.mls_show.specs.declared.verdict.Verdict.TheVariants.{Yes, No}

-- `IsUnreadableReport text verdict`: the report of an input that cannot be read, one line that names the fault.
pub record IsUnreadableReport (text : List ℕ) (verdict : Verdict) : Type 0 where
  pub fault : List ℕ
  pub one_line : IsOneLine fault
  pub text_is : text ≡ codes "unreadable " ++ (fault ++ codes "\n")
  pub verdict_is : verdict ≡ No

-- `IsNoTreeReport bytes text verdict`: the bytes are no ratchet_tree, and the report says so.
pub record IsNoTreeReport (bytes text : List ℕ) (verdict : Verdict) : Type 0 where
  pub no_tree : IsNoTree bytes
  pub unreadable : IsUnreadableReport text verdict

-- `IsMessageIn profile bytes m`: the bytes are the encoding of the message, which is in `profile`, within the limit of an
-- input (RFC 9420, 6).
pub record IsMessageIn (profile : Profile) (bytes : List ℕ) (m : Message) : Type 0 where
  pub encoded : message_in profile m ≡ Some bytes
  pub bounded : length bytes ≤ input_limit

-- `IsMessage bytes m`: the bytes are the encoding of the message, which is in the members' profile, within the limit of an
-- input.
abbrev pub IsMessage : List ℕ → Message → Type 0
IsMessage bytes m = IsMessageIn Members bytes m

-- `IsNoMessageReport profile bytes text verdict`: the bytes are no message in `profile`, and the report says so.
pub record IsNoMessageReport (profile : Profile) (bytes text : List ℕ) (verdict : Verdict) : Type 0 where
  pub no_message : (m : Message) → IsMessageIn profile bytes m → ⊥
  pub unreadable : IsUnreadableReport text verdict

-- `IsMessageReport profile bytes text verdict`: the report of a message in `profile` that can be read.
pub record IsMessageReport (profile : Profile) (bytes text : List ℕ) (verdict : Verdict) : Type 0 where
  pub sent : Message
  pub is_message : IsMessageIn profile bytes sent
  pub text_is : text ≡ message_line sent
  pub verdict_is : verdict ≡ Yes

-- `ShowsMessage profile bytes text verdict`: `text` is the report of `show message` on `bytes`, decoded in `profile`.
abbrev pub ShowsMessage : Profile → List ℕ → List ℕ → Verdict → Type 0
ShowsMessage profile bytes text verdict =
    IsMessageReport profile bytes text verdict ⊎ IsNoMessageReport profile bytes text verdict
