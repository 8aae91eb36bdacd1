-- What the steps of an examination of a GroupInfo of a later epoch return. Internal: no public contract uses this.
use Rattle.std.specs.Prelude.{◌≡◌, ◌≢◌, [], None, Some}
use Rattle.mls_tree.specs.Tree.{Tree}
use Rattle.mls_check.specs.Signatures.{VerifyFn}
use Rattle.mls_msgs.specs.declared.group_info.GroupInfo.{GroupInfo}
use Rattle.mls_apply.specs.RuleLists.{first_failing}
use Rattle.mls_signatures.specs.SignaturesToVerify.{start_signatures}
use Rattle.mls_follow.specs.State.{State}
use Rattle.mls_examine.specs.GroupInfos.{unaccepted}
use Rattle.mls_examine.specs.LaterInfos.{StartsTrusting, later_rules}
use Rattle.mls_examine.specs.declared.unfit.Unfit.{Unfit}
use Rattle.mls_examine.specs.declared.unfit.Unfit.TheVariants as unfit

-- `VouchesFor G s info t`: a known member vouches for the GroupInfo with the tree `t`, and each signature of a start is good.
pub record VouchesFor (G : VerifyFn) (s : State) (info : GroupInfo) (t : Tree) : Type 0 where
  pub no_fault : first_failing (later_rules s info t) ≡ None
  pub signed : unaccepted G (start_signatures info t) ≡ []

-- `IsVouchedFor G s info`: so it is, with the tree in it, from which a follower starts if every signature is good.
pub record IsVouchedFor (G : VerifyFn) (s : State) (info : GroupInfo) : Type 0 where
  pub new : State
  pub starts : StartsTrusting s info new
  pub vouched : VouchesFor G s info new.tree

-- `IsUnfitStarted G s info t e`: no known member vouches for the GroupInfo with the tree `t`, or signatures of a start are not good,
-- for this reason.
abbrev pub IsUnfitStarted : VerifyFn → State → GroupInfo → Tree → Unfit → Type 0
IsUnfitStarted G s info t (unfit.Unsigned qs) =
    (first_failing (later_rules s info t) ≡ None) × (qs ≢ []) × (qs ≡ unaccepted G (start_signatures info t))
IsUnfitStarted G s info t e = first_failing (later_rules s info t) ≡ Some e
