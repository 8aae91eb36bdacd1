use Rattle.std.proofs.Common.{refl, sym, ap, ◌∙◌}
use Rattle.std.specs.Int.{w16}
use Rattle.mls_wire.specs.Encoding.{number}
use Rattle.mls_wire.specs.Parsing.{body_at, number_at}
use Rattle.mls_wire.specs.IntegersExact.{number_exact, wide16}
use Rattle.mls_wire.specs.ListsExact.{list_uneven}
use Rattle.mls_wire.proofs.codes.list_of.Goals as goal

pub returns-then-is_uneven : goal.returns-then-is_uneven
returns-then-is_uneven c = (
  list_uneven (number w16) (number_at w16) (number_exact w16 wide16) c.args.reader.now c.in_ok-body.body _
      (ap body_at (sym c.fork-ahead.ensures) ∙ c.in_ok-body.ensures)
      (λ xs t e l. c.is_uneven.ensures.uneven c.if-is_uneven.true xs t e (l ∙ sym c.len.ensures)),
  refl,
)
