-- The result of an examination of a message that a delivery service receives besides handshakes (RFC 9420, 10 and 12.4.3): the
-- message fits the group that is followed, with what is known of it, or it does not, for one reason. G is the verification
-- function of a checker, `s` the state. Used by contracts.
use Rattle.std.specs.Prelude.{◌≡◌, ◌⊎◌, ◌<◌, ℕ, nat_lt, is_some, List, Some, None}
use Rattle.mls_nodes.specs.Requirements.{extension_of}
use Rattle.mls_check.specs.Signatures.{VerifyFn}
use Rattle.mls_msgs.specs.declared.group_info.GroupInfo.{GroupInfo}
use Rattle.mls_msgs.specs.declared.message.Message.{Message}
use Rattle.mls_msgs.specs.declared.message.Message.TheVariants as messages
use Rattle.mls_apply.specs.RuleLists.{first_failing}
use Rattle.mls_follow.specs.Acceptance.{EncodesNoMessage}
use Rattle.mls_follow.specs.State.{State, EncodesMessage}
use Rattle.mls_examine.specs.AddablePackages.{IsAddable, IsUnaddable}
use Rattle.mls_examine.specs.CurrentInfos.{IsCurrent, IsUnfitCurrent}
use Rattle.mls_examine.specs.GroupInfos.{info_rules}
use Rattle.mls_examine.specs.LaterInfos.{IsLater, IsUnfitLater}
use Rattle.mls_examine.specs.Packages.{IsFactsOf}
use Rattle.mls_examine.specs.declared.examinations.Examined.{Examined}
use Rattle.mls_examine.specs.declared.examinations.Examined.TheVariants as examined
use Rattle.mls_examine.specs.declared.group_infos.InfoFacts.{InfoFacts}
use Rattle.mls_examine.specs.declared.unfit.Unfit.{Unfit}
use Rattle.mls_examine.specs.declared.unfit.Unfit.TheVariants as unfit

-- `IsFitInfo G s info`: the GroupInfo is one of the present epoch, or of a later one.
abbrev pub IsFitInfo : VerifyFn → State → GroupInfo → Type 0
IsFitInfo G s info = IsCurrent G s info ⊎ IsLater G s info

-- `FitsAnyEpoch s info`: the GroupInfo satisfies the rules of any epoch.
abbrev pub FitsAnyEpoch : State → GroupInfo → Type 0
FitsAnyEpoch s info = first_failing (info_rules s info) ≡ None

-- `IsUnfitInfo G s info e`: this is the first reason for which the GroupInfo does not fit: by the rules of any epoch, else by
-- those of the present epoch or of a later one.
abbrev pub IsUnfitInfo : VerifyFn → State → GroupInfo → Unfit → Type 0
IsUnfitInfo G s info e =
    (first_failing (info_rules s info) ≡ Some e)
    ⊎ ((FitsAnyEpoch s info × (info.context.epoch ≡ s.context.epoch) × IsUnfitCurrent G s info e)
    ⊎ (FitsAnyEpoch s info × (s.context.epoch < info.context.epoch) × IsUnfitLater G s info e))

-- `AreInfoFacts s info facts`: whether the GroupInfo is of a later epoch, its epoch, and whether it has a ratchet_tree (RFC 9420,
-- 12.4.3.3) and an external_pub (12.4.3.2).
pub record AreInfoFacts (s : State) (info : GroupInfo) (facts : InfoFacts) : Type 0 where
  pub later : facts.is_later ≡ nat_lt s.context.epoch info.context.epoch
  pub epoch : facts.epoch ≡ info.context.epoch
  pub tree : facts.has_tree ≡ is_some (extension_of 2 info.extensions)
  pub external_pub : facts.has_external_pub ≡ is_some (extension_of 4 info.extensions)

-- `IsExaminedAs G s m x`: the message fits the group, and this is what is known of it.
abbrev pub IsExaminedAs : VerifyFn → State → Message → Examined → Type 0
IsExaminedAs G s (messages.KeyPackage k) (examined.Package facts) = IsAddable G s k × IsFactsOf k facts
IsExaminedAs G s (messages.KeyPackage k) (examined.Info facts) = ⊥
IsExaminedAs G s (messages.GroupInfo info) (examined.Package facts) = ⊥
IsExaminedAs G s (messages.GroupInfo info) (examined.Info facts) = IsFitInfo G s info × AreInfoFacts s info facts
IsExaminedAs G s (messages.Public _) x = ⊥
IsExaminedAs G s (messages.Unread _ _) x = ⊥

-- `IsUnfitAs G s m e`: this is the first reason for which the message does not fit the group. A PublicMessage is for a follower, and
-- of a PrivateMessage or a Welcome the body is not read.
abbrev pub IsUnfitAs : VerifyFn → State → Message → Unfit → Type 0
IsUnfitAs G s (messages.KeyPackage k) e = IsUnaddable G s k e
IsUnfitAs G s (messages.GroupInfo info) e = IsUnfitInfo G s info e
IsUnfitAs G s (messages.Public _) e = e ≡ unfit.PublicMessage
IsUnfitAs G s (messages.Unread _ _) e = e ≡ unfit.Malformed

-- `IsExamined G s bytes x`: the bytes encode a message that fits the group, and this is what is known of it.
pub record IsExamined (G : VerifyFn) (s : State) (bytes : List ℕ) (x : Examined) : Type 0 where
  pub message : Message
  pub encoded : EncodesMessage s.profile message bytes
  pub fit : IsExaminedAs G s message x

-- `EncodesUnfit G s bytes e`: the bytes encode a message that does not fit the group, first for this reason.
pub record EncodesUnfit (G : VerifyFn) (s : State) (bytes : List ℕ) (e : Unfit) : Type 0 where
  pub message : Message
  pub encoded : EncodesMessage s.profile message bytes
  pub unfit_as : IsUnfitAs G s message e

-- `IsUnfit G s bytes e`: the bytes are unfit for this reason: they encode no message, or one that does not fit the group.
abbrev pub IsUnfit : VerifyFn → State → List ℕ → Unfit → Type 0
IsUnfit G s bytes e = ((e ≡ unfit.Malformed) × EncodesNoMessage s.profile bytes) ⊎ EncodesUnfit G s bytes e
