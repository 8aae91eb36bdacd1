use Rattle.std.proofs.Common.{◌∙◌, ap}
use Rattle.mls_tree.specs.Tree.{leaf_count}
use Rattle.mls_tree.specs.TreeOperations.{number_or}
use Rattle.mls_signatures.proofs.external_commit_signatures.added_leaf.Goals as goal

pub returns-in-Some : goal.returns-in-Some
returns-in-Some c = ap (number_or (leaf_count c.args.tree.now.tree)) c.in-Some.ensures.first

pub returns-in-None : goal.returns-in-None
returns-in-None c = c.leaf_count.ensures ∙ ap (number_or (leaf_count c.args.tree.now.tree)) c.in-None.ensures.first
