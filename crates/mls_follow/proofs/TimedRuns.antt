-- What is answered at a time is a run: of the message, if it was accepted, else of none.
use Rattle.std.proofs.Common.{ℕ, List, [], ◌∷◌, Option, Result, Ok, Err, refl}
use Rattle.mls_check.specs.Signatures.{VerifyFn}
use Rattle.mls_apply.specs.declared.refusal.Refusal.{Refusal}
use Rattle.mls_follow.specs.Runs.{Call, IsRun}
use Rattle.mls_follow.specs.State.{State}
use Rattle.mls_follow.specs.TimedAnswers.{IsAnswerAt}
use Rattle.mls_follow.specs.declared.taken.Taken.{Taken}
use Rattle.mls_follow.proofs.Holding.{IsSteady, run_steady}
use Rattle.mls_follow.proofs.TimedAnswers.{without}

-- the calls without a time that lead to the same state
abbrev pub calls_at : List ℕ → Result Taken Refusal → List Call
calls_at bytes (Ok taken) = record { bytes = bytes; answer = Ok taken } ∷ []
calls_at bytes (Err e) = []

module _ (now : Option ℕ) (G : VerifyFn) (s : State) (bytes : List ℕ) where
  pub timed_run : (answer : Result Taken Refusal) (new : State) → IsAnswerAt now G s bytes answer new → IsRun G s (calls_at bytes answer) new
  timed_run (Ok taken) new h = (new, (without now G s bytes taken new h).takes, refl)
  timed_run (Err e) new h = h.takes.0

  pub timed_steady : IsSteady s → (answer : Result Taken Refusal) (new : State) → IsAnswerAt now G s bytes answer new → IsSteady new
  timed_steady steady answer new h = run_steady G s (calls_at bytes answer) new steady (timed_run answer new h)
