use Rattle.std.proofs.Common.{◌≡◌, false}
use Rattle.mls_wire.specs.Devices.{IsWorking}
use Rattle.mls_gate.specs.GateSteps.{phase_of, FromOpening}
use Rattle.mls_gate.proofs.Serving.{SoFar}
use Rattle.mls_gate.proofs.records.answer_records.Given as goal

-- the records so far were answered
abbrev pub invariant-records : goal.invariant-records
invariant-records g l =
    let m = g.C.SignatureCheck.meaning in
    FromOpening (phase_of m l.fn.phase) (λ p. SoFar p (g.R.Source.device l.fn.records).bytes (g.R.Source.device l.records).bytes (g.K.Sink.device l.fn.out).bytes (g.K.Sink.device l.out).bytes
    (phase_of m l.phase) l.reader.most)
    × (l.reader.is_over ≡ false) × IsWorking (g.R.Source.device l.records) × IsWorking (g.K.Sink.device l.out)

abbrev pub decreases-records : goal.decreases-records
decreases-records g l = l.reader.most
