use Rattle.std.proofs.Common.{rules}
use Rattle.mls_c.specs.Starts.{PutsTreeFinding}
use Rattle.mls_c.proofs.tree_exports.put_tree_finding.Goals as goal

pub returns-in-Ok-tree_finding-clause-finds : goal.returns-in-Ok-tree_finding-clause-finds
returns-in-Ok-tree_finding-clause-finds c =
    λ _. let items = c.in-Ok-to_vec.ensures.items_if_clones_equal (search rules) in
    PutsTreeFinding.finds c.in-Ok-tree_finding.finding (rw (items, c.in-Ok.ensures.receipts) at c.in-Ok-tree_finding.ensures) c.put_finding.ensures
