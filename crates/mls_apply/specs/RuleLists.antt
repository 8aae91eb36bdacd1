-- Lists of rules, and the first that fails. Used by contracts.
use Rattle.std.specs.Prelude.{Bool, if◌then◌else◌, List, [], ◌∷◌, Option, Some, None}

-- A rule: its refusal, and whether it holds.
pub record Rule (E : Type 0) : Type 0 where
  pub refusal : E
  pub holds : Bool

-- `rule e b` is the rule with this refusal.
abbrev pub rule : {E : Type 0} → E → Bool → Rule E
rule e b = record { refusal = e; holds = b }

-- `first_failing rules` is the refusal of the first rule that fails, if one does.
abbrev pub first_failing : {E : Type 0} → List (Rule E) → Option E
first_failing [] = None
first_failing (r ∷ rs) = if r.holds then first_failing rs else Some r.refusal
