use Rattle.std.proofs.Common.{◌≡◌, drop}
use Rattle.mls_msgs.specs.Profile.{are_members_entries}
use Rattle.mls_msgs.proofs.profile.are_members_entries.Given as goal

abbrev pub invariant-loop-entry : goal.invariant-loop-entry
invariant-loop-entry l = are_members_entries (drop l.entry-index l.entries) ≡ are_members_entries l.entries
