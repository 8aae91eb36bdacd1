use Rattle.std.proofs.Common.{arith, length, ap, ◌<◌}
use Rattle.std.proofs.lemmas.List.Edits.{length-remove}
use Rattle.mls_nodes.proofs.SortedLists.{OnTrue-removed}
use Rattle.mls_nodes.proofs.unmerged.Unmerged.remove.Goals as goal

pub invariant_of-self : goal.invariant_of-self
invariant_of-self c =
    let within : c.args.index < length c.self.inside.leaves = omega (arith, ap length c.self.view_is) in (
      omega (arith, ap length c.remove.ensures.items, length-remove c.self.inside.leaves c.args.index within, c.self.invariant.0),
      OnTrue-removed c.self.inside.leaves c.remove.new.self c.args.index c.self.inside.is_sorted c.remove.ensures.items within c.self.invariant.1,
    )
