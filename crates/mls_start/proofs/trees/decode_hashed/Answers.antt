use Rattle.std.proofs.Common.{ap, ◌∙◌}
use Rattle.mls_tree.specs.Tree.{listing}
use Rattle.mls_start.proofs.trees.decode_hashed.Goals as goal

pub returns-in-Ok : goal.returns-in-Ok
returns-in-Ok c =
    let h = c.in_ok-tree.ensures.tree in
    record { nodes = h.nodes; is_tree = h.is_tree; full = ap listing c.fill_hashes.ensures.tree ∙ h.full }
