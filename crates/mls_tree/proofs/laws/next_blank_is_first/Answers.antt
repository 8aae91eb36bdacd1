use Rattle.mls_tree.proofs.FirstBlanks.{next_blank_leaf-first}
use Rattle.mls_tree.proofs.laws.next_blank_is_first.Goals as goal

pub returns : goal.returns
returns c = next_blank_leaf-first
