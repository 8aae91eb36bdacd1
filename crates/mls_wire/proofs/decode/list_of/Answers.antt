use Rattle.std.proofs.Common.{refl, sym, ap, ◌∙◌}
use Rattle.mls_wire.specs.Parsing.{body_at}
use Rattle.mls_wire.specs.ListsExact.{list_uneven}
use Rattle.mls_wire.proofs.decode.list_of.Goals as goal

pub returns-then-is_uneven : goal.returns-then-is_uneven
returns-then-is_uneven g c = (
  list_uneven g.T.Decode.encoding g.T.Decode.reading g.met.T.Decode.exact c.args.reader.now c.in_ok-body.body _
      (ap body_at (sym c.fork-ahead.ensures) ∙ c.in_ok-body.ensures)
      (λ xs t e l. c.is_uneven.ensures c.if-is_uneven.true xs t e (l ∙ sym c.len.ensures)),
  refl,
)
