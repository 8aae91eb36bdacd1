-- What the call that adds strict rules to those of a follower returns (own rules). `f` and `g` are the follower before and
-- after. Used by contracts.
use Rattle.std.specs.Prelude.{◌≡◌, ◌≢◌}
use Rattle.mls_msgs.specs.declared.rules.Rules.{Rules}
use Rattle.mls_follow.specs.AddedRules.{HasAddedRules, IsStrictRefused}
use Rattle.mls_follow.specs.declared.added_rules.StrictRefused.{StrictRefused}
use Rattle.mls_follow.specs.declared.added_rules.StrictRefused.TheVariants.{OutOfMemory}
use Rattle.mls_c.specs.declared.group_follower.GroupFollower.{GroupFollower}
use Rattle.mls_c.specs.declared.input_verdict.InputVerdict.{InputVerdict}
use Rattle.mls_c.specs.Followers.{state_in, meaning_in}
use Rattle.mls_c.specs.Numbers.{added_verdict, plain_verdict}
use Rattle.mls_c.specs.Starts.{RunsOut}

-- `IsUnchanged f g`: the follower has the state and the receipts that it had.
pub record IsUnchanged (f g : GroupFollower) : Type 0 where
  pub state : state_in g ≡ state_in f
  pub receipts : meaning_in g ≡ meaning_in f

-- `MakesStrict asked f g v`: the follower has the strict rules of `asked` in addition to its own, and the receipts that it
-- had; or they cannot be added to its state, for the reason of the verdict, and it is unchanged.
pub data MakesStrict (asked : Rules) (f g : GroupFollower) (v : InputVerdict) : Type 0 where
  runs_out : RunsOut v → IsUnchanged f g → MakesStrict asked f g v
  refuses : (refused : StrictRefused) → IsStrictRefused asked (state_in f) refused → refused ≢ OutOfMemory
      → v ≡ added_verdict refused → IsUnchanged f g → MakesStrict asked f g v
  makes : HasAddedRules asked (state_in f) (state_in g) → meaning_in g ≡ meaning_in f → v ≡ plain_verdict 0
      → MakesStrict asked f g v
