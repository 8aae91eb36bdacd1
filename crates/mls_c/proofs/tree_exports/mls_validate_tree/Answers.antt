use Rattle.mls_c.proofs.tree_exports.mls_validate_tree.Goals as goal

pub returns-clause-finds : goal.returns-clause-finds
returns-clause-finds c = rw c.plain.ensures at c.put_tree_finding.ensures.finds
