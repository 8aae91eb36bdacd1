use Rattle.std.proofs.Common.{◌∙◌, ap}
use Rattle.mls_tree.specs.RatchetTree.{RatchetTree}
use Rattle.mls_follow.proofs.start.check_tree.Goals as goal

pub returns-in-Ok-of-clause-tree : goal.returns-in-Ok-of-clause-tree
returns-in-Ok-of-clause-tree g c = c.in-Ok-of.ensures.tree ∙ ap (λ (t : RatchetTree). t.tree) c.check_info_and_tree.ensures.tree
