use Rattle.mls_tree.proofs.Added.{add-set_below}
use Rattle.mls_tree.proofs.laws.added_leaf_is_first.Goals as goal

pub returns : goal.returns
returns c = add-set_below
