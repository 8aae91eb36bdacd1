-- The refusal of the rule that fails, and what a call makes of a part of a message. Internal: no public contract uses this.
use Rattle.std.specs.Prelude.{◌≡◌, ◌≢◌, Option, Some, None, Result, OnOk, IfOk, IfErr, OnErr}
use Rattle.mls_apply.specs.declared.refusal.Refusal.{Refusal}
use Rattle.mls_apply.specs.declared.refusal.Refusal.TheVariants.{OutOfMemory}
use Rattle.mls_follow.specs.State.{State}
use Rattle.mls_follow.specs.NextState.{Transition}
use Rattle.mls_follow.specs.declared.taken.Taken.{Taken}

-- `FailsWithRule failing e`: a refusal other than OutOfMemory is that of the rule that fails.
abbrev pub FailsWithRule : Option Refusal → Refusal → Type 0
FailsWithRule failing e = e ≢ OutOfMemory → failing ≡ Some e

-- `judged strict failing after` is the refusal of the first rule that fails: `failing` is that of the rules of the profile,
-- and `strict` says which strict rule refuses, given the next step.
abbrev pub judged : (Option Transition → Option Refusal) → Option Refusal → Option Transition → Option Refusal
judged strict None after = strict after
judged strict (Some e) after = Some e

-- `Takes strict failing after s result new`: a call may return `result` and leave the state `new`. It accepts only if no
-- rule fails, and the state after is then the next one. It refuses only for the first rule that fails, or if it runs out of
-- memory, and leaves the state unchanged. `failing` is the refusal of the first rule of the profile that fails, `after` the
-- next state and what was taken, and `strict` says which strict rule refuses, given these.
abbrev pub Takes : (Option Transition → Option Refusal) → Option Refusal → Option Transition → State → Result Taken Refusal
    → State → Type 0
Takes strict failing after s result new =
    OnOk result (judged strict failing after ≡ None)
    × IfOk result (λ taken. after ≡ Some (record { taken = taken; state = new }))
    × IfErr result (FailsWithRule (judged strict failing after))
    × OnErr result (new ≡ s)
