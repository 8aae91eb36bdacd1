-- The report of a gate from its opening on.
use Rattle.std.proofs.Common.{◌≡◌, ◌∙◌, List, ℕ, [], Bool, Option, refl, ap, subst, inl, inr}
use Rattle.std.specs.Prelude.{if◌then◌else◌}
use Rattle.std.specs.Io.KnownBytes.{Appends}
use Rattle.mls_wire.specs.Devices.{AppendsPrefix}
use Rattle.mls_check.specs.Signatures.{VerifyFn}
use Rattle.mls_signatures.specs.declared.signature_to_verify.SignatureToVerify.{SignatureToVerify}
use Rattle.mls_follow.specs.CoveredLogs.{all_good}
use Rattle.mls_follow.specs.State.{State}
use Rattle.mls_start.specs.Inputs.{Inputs}
use Rattle.mls_start.specs.StartFindings.{Declines}
use Rattle.mls_start.specs.StartSignatures.{StartsWith}
use Rattle.mls_start.specs.declared.finding.Finding.{Finding}
use Rattle.mls_report.specs.Finding.{finding_line, finding_verdict}
use Rattle.mls_wire.specs.declared.fault.RunFault.{RunFault}
use Rattle.mls_wire.specs.declared.fault.RunFault.TheVariants.{Read, Write, Memory}
use Rattle.mls_show.specs.declared.verdict.Verdict.{Verdict}
use Rattle.mls_show.specs.declared.verdict.Verdict.TheVariants.{Yes, No}
use Rattle.mls_gate.specs.Answers.{query_text}
use Rattle.mls_gate.specs.GateReport.{Gates, GatesPart, RecordsPart, ReportsRecords}
use Rattle.mls_gate.specs.GateSteps.{StopsInQueryText}
use Rattle.mls_gate.specs.Phases.{Opening}

module _ (time : Option ℕ) (G : VerifyFn) (i : Inputs) where
  -- no record was read
  module _ (r w0 w1 : Option (List ℕ)) where
    pub before-opening : Appends w0 w1 [] → GatesPart time G i r r w0 w1 Memory
    before-opening none = inl (inl (record { unread = refl; wrote = none }))

    pub reports-decline : (finding : Finding) → Declines all_good i finding → (verdict : Verdict)
        → Appends w0 w1 (finding_line finding) × (verdict ≡ finding_verdict finding) → Gates time G i r r w0 w1 verdict
    reports-decline finding declines verdict printed = inl (record {
      finding = finding;
      declines = declines;
      unread = refl;
      wrote = printed.0;
      verdict_is = printed.1 ∙ ap (λ (b : Bool). if b then Yes else No) declines.not_valid;
    })

    pub in-decline : (finding : Finding) → Declines all_good i finding → AppendsPrefix w0 w1 (finding_line finding) → GatesPart time G i r r w0 w1 Write
    in-decline finding declines part = inl (inl (record { finding = finding; declines = declines; unread = refl; wrote = part }))

    pub in-opening : (s : State) (signatures : List SignatureToVerify) → StartsWith i s signatures → (fault : RunFault) → StopsInQueryText G signatures w0 w1 fault
        → GatesPart time G i r r w0 w1 fault
    in-opening s signatures can Read stops = absurd stops
    in-opening s signatures can Write stops =
        inl (inr (record { state = s; signatures = signatures; can_start = can; unread = refl; wrote = stops }))
    in-opening s signatures can Memory stops = inl (inr (record {
      state = s;
      front = stops.front;
      rest = stops.rest;
      can_start = subst (StartsWith i s) stops.split can;
      unread = refl;
      wrote = stops.wrote;
    }))

  -- the signatures were listed
  module _ (r0 r1 w0 w1 w2 : Option (List ℕ)) (s : State) (signatures : List SignatureToVerify) (can : StartsWith i s signatures) (wrote : Appends w0 w1 (query_text G signatures)) where
    pub reports-after : (verdict : Verdict) → ReportsRecords (Opening i time G) r0 r1 w1 w2 verdict → Gates time G i r0 r1 w0 w2 verdict
    reports-after verdict h = inr (record { state = s; signatures = signatures; can_start = can; between = w1; wrote = wrote; reports = h })

    pub part-after : (fault : RunFault) → RecordsPart (Opening i time G) r0 r1 w1 w2 fault → GatesPart time G i r0 r1 w0 w2 fault
    part-after fault h = inr (record { state = s; signatures = signatures; can_start = can; between = w1; wrote = wrote; reports = h })
