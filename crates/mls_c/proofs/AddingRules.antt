-- What the call that adds strict rules returns.
use Rattle.std.proofs.Common.{◌≡◌}
use Rattle.mls_msgs.specs.declared.rules.Rules.{Rules}
use Rattle.mls_follow.specs.AddedRules.{IsStrictRefused}
use Rattle.mls_follow.specs.declared.added_rules.StrictRefused.{StrictRefused}
use Rattle.mls_follow.specs.declared.added_rules.StrictRefused.TheVariants.{Group, Known, OutOfMemory}
use Rattle.mls_c.specs.AddedRules.{IsUnchanged, MakesStrict}
use Rattle.mls_c.specs.Followers.{state_in}
use Rattle.mls_c.specs.Numbers.{added_verdict}
use Rattle.mls_c.specs.declared.group_follower.GroupFollower.{GroupFollower}
use Rattle.mls_c.specs.declared.input_verdict.InputVerdict.{InputVerdict}

pub not_added : (asked : Rules) (f g : GroupFollower) (v : InputVerdict) (refused : StrictRefused) → IsStrictRefused asked (state_in f) refused
    → v ≡ added_verdict refused → IsUnchanged f g → MakesStrict asked f g v
not_added asked f g v (Group fault) fails is same = MakesStrict.refuses (Group fault) fails (λ own. cc) is same
not_added asked f g v (Known n) fails is same = MakesStrict.refuses (Known n) fails (λ own. cc) is same
not_added asked f g v OutOfMemory fails is same = MakesStrict.runs_out is same
