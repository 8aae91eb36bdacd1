use Rattle.std.proofs.Common.{◌≡◌, drop}
use Rattle.mls_follow.proofs.AddingRules.{GoesOn}
use Rattle.mls_follow.proofs.added_rules.first_unmet_known.Given as goal

abbrev pub invariant-loop-pending : goal.invariant-loop-pending
invariant-loop-pending l = (l.number ≡ l.pending-index) × GoesOn l.asked l.context l.known (drop l.pending-index l.known) l.pending-index
