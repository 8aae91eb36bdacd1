use Rattle.std.proofs.Common.{rules, ◌∙◌, sym, subst}
use Rattle.std.specs.Io.KnownBytes.{Appends}
use Rattle.mls_wire.specs.Devices.{AppendsPrefix}
use Rattle.mls_wire.specs.declared.fault.RunFault.TheVariants.{Write}
use Rattle.mls_show.proofs.Outcomes.{IfErr-is}
use Rattle.mls_gate.proofs.VerifyLines.{none-made, made-known, made-unknown, lines-write}
use Rattle.mls_gate.proofs.signature_lines.write_verify_lines.Goals as goal
use Rattle.mls_gate.proofs.signature_lines.write_verify_lines.Goals.{then-not-is_known+in_ok-line+in_ok-write_text, else-not-is_known}

pub signatures-init : goal.signatures-init
signatures-init g c = (none-made _ _ _, c.requires)

pub returns-in_err-write_text-clause-effect_on_error : goal.returns-in_err-write_text-clause-effect_on_error
returns-in_err-write_text-clause-effect_on_error g c =
    let next = rw c.in-Some.is at c.in-Ok.ensures.next in
    let unknown = sym c.is_known.ensures ∙ c.if-not-is_known.true in
    let part = subst (AppendsPrefix _ _) (c.as_str.ensures.value ∙ c.in_ok-line.ensures) c.in_err-write_text.ensures.effect_on_error in
    IfErr-is c.from_residual-in_err-write_text.result _ Write (search rules) (lines-write _ _ _ _ _ _ _ c.signatures.invariant.0 c.in-Some.signature _ next _ unknown part)

pub signatures-preserved : goal.signatures-preserved
signatures-preserved g c =
    let next = rw c.in-Some.is at c.in-Ok.ensures.next in
    elim c.if-not-is_known.branch [
      | then-not-is_known+in_ok-line+in_ok-write_text w ↦
          (let unknown = sym c.is_known.ensures ∙ w.if-not-is_known.true in
          let wrote = subst (Appends _ _) (w.as_str.ensures.value ∙ w.in_ok-line.ensures) w.in_ok-write_text.ensures.all in
          rw (w.out-is, w.count-is) (made-unknown _ _ _ _ _ _ _ c.signatures.invariant.0 c.in-Some.signature _ next _ unknown wrote, search rules))
      | else-not-is_known w ↦
          (let known = sym c.is_known.ensures ∙ w.if-not-is_known.false in
          rw (w.out-is, w.count-is) (made-known _ _ _ _ _ _ _ c.signatures.invariant.0 c.in-Some.signature _ next known, c.signatures.invariant.1))
    ]
