-- Sets of the strict rules 40 to 52 (own rule), and the number that encodes a set. Used by contracts.
use Rattle.std.specs.Prelude.{ℕ, ◌-◌, ◌^◌, ◌<◌, Bool, ◌&&◌, ◌==◌, nat_le}
use Rattle.std.specs.Int.{bit_at}
use Rattle.std.proofs.Common.{arith}
use Rattle.mls_msgs.specs.declared.rules.Rules.{Rules}

-- `is_strict_rule n` is true if and only if `n` is the number of a strict rule, 40 to 52.
abbrev pub is_strict_rule : ℕ → Bool
is_strict_rule n = nat_le 40 n && nat_le n 52

-- `rule_bits r` is the number that encodes the set `r`: bit `n - 40` is 1 if and only if `r` has the strict rule `n`, and
-- each other bit is 0.
abbrev pub rule_bits : Rules → ℕ
rule_bits r = r.members

-- `has_rule r n` is true if and only if `n` is the number of a strict rule and the set `r` has it.
unfoldable pub has_rule : Rules → ℕ → Bool
has_rule r n = is_strict_rule n && (bit_at (rule_bits r) (n - 40) == 1)

-- `is_plain r` is true if and only if the set `r` is empty.
abbrev pub is_plain : Rules → Bool
is_plain r = rule_bits r == 0

-- The number 0 has no bit above bit 12.
pub plain_rules-fits : 0 < 2 ^ 13
plain_rules-fits = omega arith

-- `plain_rules` is the empty set.
abbrev pub plain_rules : Rules
plain_rules = record { members = 0; fits = plain_rules-fits }

-- The number 0x1fff has no bit above bit 12.
pub strict_rules-fits : 0x1fff < 2 ^ 13
strict_rules-fits = omega arith

-- `strict_rules` is the set of the strict rules 40 to 52.
abbrev pub strict_rules : Rules
strict_rules = record { members = 0x1fff; fits = strict_rules-fits }
