use Rattle.std.proofs.Common.{subst, sym, IsSome}
use Rattle.mls_wire.specs.Encoding.{list}
use Rattle.mls_wire.proofs.Edited.{list_removed}
use Rattle.mls_wire.proofs.items.Items.remove.Goals as goal

pub invariant_of-self : goal.invariant_of-self
invariant_of-self g c =
    subst (λ xs. IsSome (list g.T.Decode.encoding xs)) (sym c.remove.ensures.items)
    (list_removed g.T.Decode.encoding c.self.inside.items.items c.args.index c.self.invariant)
