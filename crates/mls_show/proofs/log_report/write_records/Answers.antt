use Rattle.std.proofs.Common.{rules, arith, ◌≡◌, ◌+◌, ◌++◌, ◌∷◌, [], length, length-append, ap, refl, false, true}
use Rattle.mls_wire.specs.Logs.{LogState}
use Rattle.mls_show.specs.LogReport.{record_limit}
use Rattle.mls_show.proofs.Outcomes.{IfErr-is}
use Rattle.mls_show.proofs.LogLines.{so_far-none, so_far-snoc, stops-reading, stops-in_record, all_written}
use Rattle.mls_show.proofs.log_report.write_records.Goals as goal

pub records-init : goal.records-init
records-init g c =
    let most : c.new-reader.result.most ≡ record_limit = ap (λ (r : LogState). r.most) c.new-reader.ensures in
    let going : c.new-reader.result.is_over ≡ false = ap (λ (r : LogState). r.is_over) c.new-reader.ensures in
    (([], so_far-none _ _ _ _ _ c.requires.none.1 c.requires.none.2, c.requires.none.0, omega (arith, most)), going, c.requires.log, c.requires.out, omega (arith, c.requires.none.0, c.requires.none.1), omega (arith, c.requires.none.0, most))

pub returns-in_err-next_step-clause-effect_on_error : goal.returns-in_err-next_step-clause-effect_on_error
returns-in_err-next_step-clause-effect_on_error g c =
    let so_far = c.records.invariant.0 in
    let stop = c.in_err-next_step.ensures.record_read in
    IfErr-is c.from_residual.result _ c.in_err-next_step.field-0.0 (search rules)
    (stops-reading _ _ _ _ _ _ so_far.0 _ _ _ so_far.1 so_far.3 stop.1 _ stop.0 stop.2 stop.3)

pub returns-in_err-is_readable-in-Record-clause-effect_on_error :
    goal.returns-in_err-is_readable-in-Record-clause-effect_on_error
returns-in_err-is_readable-in-Record-clause-effect_on_error g c =
    let so_far = c.records.invariant.0 in
    let step = rw c.in-Record.is at c.in_ok-next_step.ensures.record_read in
    let stops = rw c.body-body.ensures at c.in_err-is_readable-in-Record.ensures.effect_on_error in
    IfErr-is c.from_residual-in_err-is_readable-in-Record.result _ c.in_err-is_readable-in-Record.field-0.0 (search rules)
    (stops-in_record _ _ _ _ _ _ so_far.0 _ _ _ so_far.1 so_far.3 _ _ c.next_step.new.reader.body step.1 _ (omega (arith, so_far.2)) step.0 step.3 step.2 stops)

pub record_size-size-requires : goal.record_size-size-requires
record_size-size-requires g c =
    let step = rw c.in-Record.is at c.in_ok-next_step.ensures.record_read in
    rw c.body-body.ensures step.3.bounded

pub add-requires : goal.add-requires
add-requires g c =
    let so_far = c.records.invariant.0 in
    let goes = rw c.in-Record.is at c.in_ok-next_step.ensures.goes_on in
    record { count = omega (arith, so_far.2, so_far.3, goes.0); at = c.records.invariant.4; size = c.record_size-size.ensures.bound }

pub records-preserved : goal.records-preserved
records-preserved g c =
    let so_far = c.records.invariant.0 in
    let step = rw c.in-Record.is at c.in_ok-next_step.ensures.record_read in
    let goes = rw c.in-Record.is at c.in_ok-next_step.ensures.goes_on in
    let wrote = rw c.body-body.ensures at c.in_ok-is_readable-in-Record.ensures.printed in
    let size_of = rw c.body-body.ensures at c.record_size-size.ensures.size in
    let more = so_far-snoc _ _ _ _ _ _ _ so_far.0 _ _ _ _ _ _ _ _ step.1 so_far.1 (omega (arith, so_far.2)) step.3 step.2 (size_of step.1 step.3.encoded) c.add.ensures.at c.add.ensures.readable wrote in
    let count : length (so_far.0 ++ wrote.shown ∷ []) ≡ length so_far.0 + 1 = length-append so_far.0 (wrote.shown ∷ []) in (
      (so_far.0 ++ wrote.shown ∷ [], more, omega (arith, count, so_far.2, c.add.ensures.count), omega (arith, count, so_far.3, goes.0)),
      goes.1,
      search rules,
      search rules,
      omega (arith, c.add.ensures.count, c.add.ensures.at, c.record_size-size.ensures.bound, c.records.invariant.4),
      omega (arith, c.add.ensures.count, goes.0, c.records.invariant.5),
    )

pub records-smaller : goal.records-smaller
records-smaller g c =
    let goes = rw c.in-Record.is at c.in_ok-next_step.ensures.goes_on in
    omega (arith, goes.0)

pub returns-in-End-clause-printed : goal.returns-in-End-clause-printed
returns-in-End-clause-printed g c =
    let so_far = c.records.invariant.0 in
    let step = rw c.in-End.is at c.in_ok-next_step.ensures.record_read in
    all_written _ _ _ _ _ _ so_far.0 _ _ _ so_far.1 so_far.3 _ [] false so_far.2 step.0 (refl, step.1)

pub returns-in-Broken-clause-printed : goal.returns-in-Broken-clause-printed
returns-in-Broken-clause-printed g c =
    let so_far = c.records.invariant.0 in
    let step = rw c.in-Broken.is at c.in_ok-next_step.ensures.record_read in
    all_written _ _ _ _ _ _ so_far.0 _ _ _ so_far.1 so_far.3 _ step.0 true so_far.2 step.1 step.2

pub unreachable-requires : goal.unreachable-requires
unreachable-requires g c = rw c.in-Over.is at c.in_ok-next_step.ensures.record_read
