-- What a message comes to.
use Rattle.std.proofs.Common.{◌≡◌, ◌≢◌, ℕ, List}
use Rattle.std.specs.Prelude.{Option, Result, Ok, Err, OnOk, IfOk, OnErr, IfErr}
use Rattle.mls_check.specs.Signatures.{VerifyFn}
use Rattle.mls_follow.specs.Acceptance.{IsNext}
use Rattle.mls_follow.specs.State.{State}
use Rattle.mls_follow.specs.TimedAcceptance.{IsAcceptableAt, IsFirstRefusalAt, IsTransitionAt}
use Rattle.mls_apply.specs.declared.refusal.Refusal.{Refusal}
use Rattle.mls_apply.specs.declared.refusal.Refusal.TheVariants.{OutOfMemory}
use Rattle.mls_follow.specs.declared.taken.Taken.{Taken}

pub takes : (now : Option ℕ) (G : VerifyFn) (s : State) (bytes : List ℕ) (answer : Result Taken Refusal) (new : State)
    → OnOk answer (IsAcceptableAt now G s bytes) → IfOk answer (λ taken. IsNext s bytes (record { taken = taken; state = new }))
    → IfErr answer (λ e. e ≢ OutOfMemory → IsFirstRefusalAt now G s bytes e) → OnErr answer (new ≡ s)
    → IsTransitionAt now G s bytes answer new
takes now G s bytes (Ok taken) new a n r u = (a, n)
takes now G s bytes (Err e) new a n r u = (u, r)
