use Rattle.std.proofs.Common.{rules, ◌≡◌, Ok}
use Rattle.mls_wire.specs.declared.log.LogStep.TheVariants as steps
use Rattle.mls_wire.proofs.Logs.{meets_kept}
use Rattle.mls_wire.proofs.log.Records.next.Goals.{in_default-via-in-Ok+in_default, in_default-via-in_default}
use Rattle.mls_wire.proofs.log.Records.next.Goals as goal

pub returns-in_default-clause-record_read : goal.returns-in_default-clause-record_read
returns-in_default-clause-record_read g c =
    let no : c.next_step-answer.result ≡ Ok steps.Record → ⊥ = elim c.in_default.branch [
      | in_default-via-in-Ok+in_default w ↦ search rules
      | in_default-via-in_default w ↦ search rules
    ] in
    rw (← c.self.view_is) (λ over. meets_kept _ _ c.self.inside.most _ c.clear.new.self.items c.next_step-answer.result no c.next_step-answer.ensures.record_read)
