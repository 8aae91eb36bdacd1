use Rattle.std.proofs.Common.{sym, ap, ◌∙◌, arith}
use Rattle.mls_wire.specs.Parsing.{length_at}
use Rattle.mls_wire.proofs.Logs.{size_found, size_refused, size_over}
use Rattle.mls_wire.proofs.log.size_of_body.Goals as goal

pub returns-in-Ok : goal.returns-in-Ok
returns-in-Ok c =
    let (first, more, begins, whole) = c.requires in
    (omega (arith, c.if-size-le-MAX_INPUT.true), size_found c.args.bytes.now first more begins whole c.in-Ok.size _ (ap length_at (sym c.new.ensures) ∙ c.in-Ok.ensures))

pub returns-in_default : goal.returns-in_default
returns-in_default c =
    let (first, more, begins, whole) = c.requires in
    size_over c.args.bytes.now first more begins whole c.in-Ok.size _ (ap length_at (sym c.new.ensures) ∙ c.in-Ok.ensures) (omega (arith, c.if-size-le-MAX_INPUT.false))

pub returns-in_default-2 : goal.returns-in_default-2
returns-in_default-2 c =
    let (first, more, begins, whole) = c.requires in
    size_refused c.args.bytes.now first more begins whole (ap length_at (sym c.new.ensures) ∙ c.in_default.ensures.0)
