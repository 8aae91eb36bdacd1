-- The lines of the signatures of a start or a resumption, and after them those of the log.
use Rattle.std.proofs.Common.{List, ℕ, Option, refl, subst, inl, inr}
use Rattle.std.specs.Io.KnownBytes.{Appends}
use Rattle.mls_check.specs.Signatures.{VerifyFn}
use Rattle.mls_follow.specs.State.{State}
use Rattle.mls_signatures.specs.declared.signature_to_verify.SignatureToVerify.{SignatureToVerify}
use Rattle.mls_start.specs.Inputs.{Inputs}
use Rattle.mls_start.specs.StartSignatures.{StartsWith}
use Rattle.mls_report.specs.SignaturesReport.{needed_lines, ReportsLogIf, LogPartIf, Signatures, SignaturesPart}
use Rattle.mls_report.specs.SignaturesSteps.{StopsInLines}
use Rattle.mls_wire.specs.declared.fault.RunFault.{RunFault}
use Rattle.mls_wire.specs.declared.fault.RunFault.TheVariants.{Read, Write, Memory}
use Rattle.mls_show.specs.declared.verdict.Verdict.{Verdict}

module _ (R : VerifyFn) (i : Inputs) (s : State) (needed : List SignatureToVerify) (starts : StartsWith i s needed) where
  -- the lines of the start were not written whole
  pub stops-in-start : (log : Option (Option (List ℕ))) (w0 w1 : Option (List ℕ)) (fault : RunFault) → StopsInLines (needed_lines R) needed w0 w1 fault
      → SignaturesPart R i log log w0 w1 fault
  stops-in-start log w0 w1 Read stops = absurd stops
  stops-in-start log w0 w1 Write stops = inl (inr (record { state = s; needed = needed; starts = starts; unread = refl; wrote = stops }))
  stops-in-start log w0 w1 Memory stops =
      inl (inr (record {
        state = s;
        front = stops.front;
        rest = stops.rest;
        starts = subst (StartsWith i s) stops.split starts;
        unread = refl;
        wrote = stops.wrote;
      }))

  -- they were, and then those of the log, or a part of these
  module _ (l0 l1 : Option (Option (List ℕ))) (w0 w1 w2 : Option (List ℕ)) (wrote : Appends w0 w1 (needed_lines R needed)) where
    pub prints-log : (verdict : Verdict) → ReportsLogIf R s l0 l1 w1 w2 verdict → Signatures R i l0 l1 w0 w2 verdict
    prints-log verdict reports = inr (record { state = s; needed = needed; starts = starts; between = w1; wrote = wrote; reports = reports })

    pub stops-in-log : (fault : RunFault) → LogPartIf R s l0 l1 w1 w2 fault → SignaturesPart R i l0 l1 w0 w2 fault
    stops-in-log fault reports = inr (record { state = s; needed = needed; starts = starts; between = w1; wrote = wrote; reports = reports })
