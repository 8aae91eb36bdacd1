-- Which set of rules is read from a number.
use Rattle.std.proofs.Common.{◌≡◌, ◌^◌, ℕ, false, Some, None, refl, subst, sym}
use Rattle.std.specs.Prelude.{nat_lt}
use Rattle.std.specs.Int.{w16}
use Rattle.mls_wire.specs.Input.{Input}
use Rattle.mls_wire.specs.Parsing.{number_at}
use Rattle.mls_msgs.specs.Rules.{rule_bits}
use Rattle.mls_msgs.specs.declared.rules.Rules.{Rules}
use Rattle.mls_state.specs.Parsing.{rules_of, rule_set_at}
use Rattle.mls_state.specs.StateExact.{rules_of-none, rules_of-encoded}

-- a number is read as the set that has it
pub rule_set_found : (i j : Input) (n : ℕ) (r : Rules) → number_at w16 i ≡ Some (n, j) → rule_bits r ≡ n → rule_set_at i ≡ Some (r, j)
unfolding rule_set_at
rule_set_found i j n r e bits =
    let set : rules_of n ≡ Some r = subst (λ m. rules_of m ≡ Some r) bits (rules_of-encoded r) in
    rw e (rw set refl)

-- a number with a bit above bit 12 is read as no set
pub rule_set_missing : (i j : Input) (n : ℕ) → number_at w16 i ≡ Some (n, j) → false ≡ nat_lt n (2 ^ 13) → rule_set_at i ≡ None
unfolding rule_set_at
rule_set_missing i j n e high = rw e (rw (rules_of-none n (sym high)) refl)
