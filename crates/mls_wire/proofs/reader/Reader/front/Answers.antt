use Rattle.std.proofs.Common.{◌+◌, length, refl, ap, arith, length-take}
use Rattle.mls_wire.specs.Input.{at}
use Rattle.mls_wire.proofs.Numbers.{front_short, front_read}
use Rattle.mls_wire.proofs.reader.Reader.front.Goals as goal

pub returns-in_err-front : goal.returns-in_err-front
returns-in_err-front c = rw (c.from_residual.ensures, ← c.self.view_is) (refl, front_short _ c.args.count c.in_err-front.ensures)

pub returns : goal.returns
returns c =
    let h = c.in_ok-front.ensures in
    rw (← c.self.view_is) (
      omega (arith, ap length h.1, length-take c.args.count c.self.inside.left.now, h.0),
      front_read _ _ _ c.args.count h.3 h.0 h.1 (ap (at (c.self.inside.offset + c.args.count)) h.2),
    )
