-- What a group is followed from, as contracts read it. Used by contracts.
use Rattle.std.specs.Prelude.{ℕ, List, Option, option_map}
use Rattle.mls_msgs.specs.declared.profile.Profile.{Profile}
use Rattle.mls_msgs.specs.declared.rules.Rules.{Rules}
use Rattle.mls_start.specs.declared.start_bytes.StartBytes.{StartBytes}
use Rattle.mls_start.specs.declared.start_bytes.StartBytes.TheVariants as starts

-- `OfInfo asked profile info tree`: the bytes of a GroupInfo (RFC 9420, 12.4.3), and of a tree if one is passed (12.4.3.3).
-- The group is followed in the profile, and with the strict rules `asked`. `OfState asked bytes`: the bytes of the file of a
-- state, to whose strict rules those of `asked` are added.
pub data Inputs : Type 0 where
  OfInfo : Rules → Profile → List ℕ → Option (List ℕ) → Inputs
  OfState : Rules → List ℕ → Inputs

-- `inputs_of start` is what a `StartBytes` holds.
abbrev pub inputs_of : StartBytes → Inputs
inputs_of (starts.Info rules profile info tree) = OfInfo rules profile info.items (option_map (λ v. v.items) tree)
inputs_of (starts.State rules bytes) = OfState rules bytes.items

-- `asked_by i` is the strict rules that are asked.
abbrev pub asked_by : Inputs → Rules
asked_by (OfInfo asked profile info tree) = asked
asked_by (OfState asked bytes) = asked
