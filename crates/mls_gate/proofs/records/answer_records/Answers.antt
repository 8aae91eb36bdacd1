use Rattle.std.proofs.Common.{rules, ◌≡◌, ap, false}
use Rattle.mls_wire.specs.Logs.{LogState}
use Rattle.mls_wire.specs.declared.fault.RunFault.TheVariants.{Write}
use Rattle.mls_show.proofs.Outcomes.{IfErr-is}
use Rattle.mls_gate.specs.GateReport.{record_limit}
use Rattle.mls_gate.proofs.Serving.{so_far-none, so_far-snoc, ready-so_far, printed-last, part-record, part-read, printed-end, printed-broken, in-broken}
use Rattle.mls_gate.proofs.records.answer_records.Goals as goal

pub records-init : goal.records-init
records-init g c =
    let most : c.new-reader.result.most ≡ record_limit = ap (λ (r : LogState). r.most) c.new-reader.ensures in
    let going : c.new-reader.result.is_over ≡ false = ap (λ (r : LogState). r.is_over) c.new-reader.ensures in
    (λ i time G is. so_far-none _ _ _ _ _ is most, going, c.requires.records, c.requires.out)

pub answer_record-requires-clause-ready : goal.answer_record-requires-clause-ready
answer_record-requires-clause-ready g c =
    let opening = c.requires.opening in
    ready-so_far _ _ _ _ _ _ _ _ _ opening.ready (c.records.invariant.0 opening.inputs opening.time opening.verify opening.is)

pub returns-in_err-next_record-clause-effect_on_error : goal.returns-in_err-next_record-clause-effect_on_error
returns-in_err-next_record-clause-effect_on_error g c =
    let inv = c.records.invariant in
    IfErr-is c.from_residual.result _ c.in_err-next_record.field-0.0 (search rules)
    (λ i time G is. part-read _ _ _ _ _ _ _ _ (inv.0 i time G is) c.in_err-next_record.field-0.0 c.in_err-next_record.ensures.undecided c.in_err-next_record.ensures.fault)

pub returns-in_err-answer_record-in-Record-clause-effect_on_error : goal.returns-in_err-answer_record-in-Record-clause-effect_on_error
returns-in_err-answer_record-in-Record-clause-effect_on_error g c =
    let inv = c.records.invariant in
    let step = rw c.in-Record.is at c.in_ok-next_record.ensures.step in
    let stops = rw c.body.ensures at c.in_err-answer_record-in-Record.ensures.effect_on_error in
    IfErr-is c.from_residual-in_err-answer_record-in-Record.result _ c.in_err-answer_record-in-Record.field-0.0 (search rules)
    (λ i time G is. part-record _ _ _ _ _ _ _ _ _ (inv.0 i time G is) c.next_record.new.reader.body step.2 step.0 step.4 step.3 _ _ c.in_err-answer_record-in-Record.field-0.0 stops)

pub returns-in-End-false-clause-printed : goal.returns-in-End-false-clause-printed
returns-in-End-false-clause-printed g c =
    let inv = c.records.invariant in
    let step = rw (c.in-End-false.is, c.in-End-false.is_broken-test) at c.in_ok-next_record.ensures.step in
    λ i time G is. printed-end _ _ _ _ _ _ _ _ (inv.0 i time G is) c.end_verdict.result step.1 c.end_verdict.ensures step.2 step.3

pub returns-in-End-true-clause-printed : goal.returns-in-End-true-clause-printed
returns-in-End-true-clause-printed g c =
    let inv = c.records.invariant in
    let step = rw (c.in-End-true.is, c.in-End-true.is_broken-test) at c.in_ok-next_record.ensures.step in
    λ i time G is. printed-broken _ _ _ _ _ _ _ _ (inv.0 i time G is) step.1 step.2 step.3 _ c.in_ok-write_text-in-End-true.ensures.all

pub returns-in_err-write_text-in-End-true-clause-effect_on_error : goal.returns-in_err-write_text-in-End-true-clause-effect_on_error
returns-in_err-write_text-in-End-true-clause-effect_on_error g c =
    let inv = c.records.invariant in
    let step = rw (c.in-End-true.is, c.in-End-true.is_broken-test) at c.in_ok-next_record.ensures.step in
    IfErr-is c.from_residual-in_err-write_text-in-End-true.result _ Write (search rules)
    (λ i time G is. in-broken _ _ _ _ _ _ _ _ (inv.0 i time G is) step.1 step.2 step.3 _ c.in_err-write_text-in-End-true.ensures.effect_on_error)

pub returns-then-branch-clause-printed : goal.returns-then-branch-clause-printed
returns-then-branch-clause-printed g c =
    let inv = c.records.invariant in
    let step = rw c.in-Record.is at c.in_ok-next_record.ensures.step in
    let printed = rw c.body.ensures at c.in_ok-answer_record-in-Record.ensures.printed in
    λ i time G is. printed-last _ _ _ _ _ _ _ _ _ (inv.0 i time G is) c.next_record.new.reader.body step.2 step.0 step.4 step.3 _ _ (rw c.if-branch.true at printed)

pub records-preserved : goal.records-preserved
records-preserved g c =
    let inv = c.records.invariant in
    let step = rw c.in-Record.is at c.in_ok-next_record.ensures.step in
    let printed = rw c.body.ensures at c.in_ok-answer_record-in-Record.ensures.printed in (
      λ i time G is. so_far-snoc _ _ _ _ _ _ _ _ _ (inv.0 i time G is) c.next_record.new.reader.body step.2 step.0 step.4 step.3 _ _ (rw c.if-branch.false at printed),
      step.1,
      search rules,
      search rules,
    )
