use Rattle.std.proofs.Common.{Some, false, ap, refl}
use Rattle.mls_gate.specs.GateSteps.{phase_of}
use Rattle.mls_gate.specs.declared.request.Request.TheVariants.{Store}
use Rattle.mls_gate.proofs.Answering.{stored, without-file}
use Rattle.mls_gate.proofs.Replying.{replies-at, unstarted}
use Rattle.mls_gate.proofs.phase.GatePhase.store.Goals as goal

pub returns-in_default-clause-answered : goal.returns-in_default-clause-answered
returns-in_default-clause-answered g c rest =
    unstarted g.C.SignatureCheck.meaning c.args.self.now c.in_default.not-Following (Some Store) rest (λ i time G. refl)

pub returns-in_ok-stored_line-in-Ok-clause-answered : goal.returns-in_ok-stored_line-in-Ok-clause-answered
returns-in_ok-stored_line-in-Ok-clause-answered g c rest =
    let at = ap (phase_of g.C.SignatureCheck.meaning) c.in-Following.is in
    replies-at _ _ at (Some Store) rest _ _ false (stored _ _ _ _ c.in-Ok.file.items _ at c.in-Ok.ensures.encoded c.in_ok-stored_line-in-Ok.ensures)

pub returns-in_ok-from_str-in-Err-Wire-clause-answered : goal.returns-in_ok-from_str-in-Err-Wire-clause-answered
returns-in_ok-from_str-in-Err-Wire-clause-answered g c rest =
    let none = rw c.in-Err-Wire.field-0-is at c.in-Err-Wire.ensures.too_long in
    let at = ap (phase_of g.C.SignatureCheck.meaning) c.in-Following.is in
    replies-at _ _ at (Some Store) rest _ _ false (without-file _ _ _ _ _ at (none (λ e. cc)).1 c.in_ok-from_str-in-Err-Wire.ensures.ok)
