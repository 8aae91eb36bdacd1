use Rattle.std.proofs.Common.{length}
use Rattle.mls_commands.proofs.asked_rules.+without_numbers.Given as goal

abbrev pub decreases-without_numbers : goal.decreases-without_numbers
decreases-without_numbers l = length l.text.now
