-- A run's state is the fold of the next states over its accepted messages.
use Rattle.std.proofs.Common.{List, [], ◌∷◌, Ok, Err}
use Rattle.mls_check.specs.Signatures.{VerifyFn}
use Rattle.mls_follow.specs.State.{State}
use Rattle.mls_follow.specs.Runs.{Call, IsTransition, IsRun, IsFold, accepted, accepted_before}

pub run_fold : (G : VerifyFn) (s : State) (calls : List Call) (new : State) → IsRun G s calls new → IsFold s (accepted calls) new
run_fold G s [] new h = h
run_fold G s (call ∷ calls) new h =
    let rest = run_fold G h.0 calls new h.2 in
    elim call.answer as (λ a. IsTransition G s call.bytes a h.0 → IsFold s (accepted_before call.bytes a (accepted calls)) new) [
      | Ok t ↦ λ step. (record { taken = t; state = h.0 }, step.1, rest)
      | Err e ↦ λ step. rw step.0 at rest
    ] h.1
