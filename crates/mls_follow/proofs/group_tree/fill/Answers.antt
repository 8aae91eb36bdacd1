use Rattle.mls_tree.specs.PublicTreeModel.{plain}
use Rattle.mls_tree.specs.RatchetTreeInternal.{RatchetTree-same}
use Rattle.mls_follow.proofs.group_tree.fill.Goals as goal

pub returns-in-Ok-clause-plain : goal.returns-in-Ok-clause-plain
returns-in-Ok-clause-plain c = RatchetTree-same (plain c.fill_hashes.new.tree) (plain c.args.tree.now) c.fill_hashes.ensures.tree

pub returns-in-Err-OutOfMemory-clause-plain : goal.returns-in-Err-OutOfMemory-clause-plain
returns-in-Err-OutOfMemory-clause-plain c = RatchetTree-same (plain c.fill_hashes.new.tree) (plain c.args.tree.now) c.fill_hashes.ensures.tree
