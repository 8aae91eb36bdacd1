-- What a follower answers, where memory did not run out.
use Rattle.std.proofs.Common.{◌≡◌, ◌≢◌, ℕ, List, Option, Ok, Err, Result}
use Rattle.std.specs.Prelude.{IfOk, IfErr, OnOk, OnErr}
use Rattle.mls_check.specs.Signatures.{VerifyFn}
use Rattle.mls_follow.specs.State.{State}
use Rattle.mls_follow.specs.Acceptance.{IsNext}
use Rattle.mls_follow.specs.TimedAcceptance.{IsAcceptableAt, IsFirstRefusalAt}
use Rattle.mls_follow.specs.TimedAnswers.{IsAnswerAt}
use Rattle.mls_apply.specs.declared.refusal.Refusal.{Refusal}
use Rattle.mls_apply.specs.declared.refusal.Refusal.TheVariants.{OutOfMemory}
use Rattle.mls_follow.specs.declared.taken.Taken.{Taken}

pub answered :
    (time : Option ℕ) (G : VerifyFn) (s : State) (bytes : List ℕ) (answer : Result Taken Refusal) (new : State)
    → OnOk answer (IsAcceptableAt time G s bytes) → IfOk answer (λ taken. IsNext s bytes (record { taken = taken; state = new }))
    → IfErr answer (λ e. e ≢ OutOfMemory → IsFirstRefusalAt time G s bytes e) → OnErr answer (new ≡ s) → (answer ≡ Err OutOfMemory → ⊥)
    → IsAnswerAt time G s bytes answer new
answered time G s bytes (Ok taken) new accepted next refused stays other = record { takes = (accepted, next); memory = other }
answered time G s bytes (Err e) new accepted next refused stays other = record { takes = (stays, refused); memory = other }
