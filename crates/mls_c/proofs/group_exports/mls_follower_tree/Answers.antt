use Rattle.std.proofs.Common.{rules}
use Rattle.mls_c.specs.Followers.{state_in}
use Rattle.mls_c.specs.GroupParts.{encoded_tree, PutsEncoding}
use Rattle.mls_c.proofs.Moving.{of_held}
use Rattle.mls_c.proofs.group_exports.mls_follower_tree.Goals as goal

pub returns-clause-tree : goal.returns-clause-tree
returns-clause-tree c =
    of_held _ c.in-Some.open.value (λ f. PutsEncoding (encoded_tree (state_in f).tree) c.args.tree.now c.put_tree-number.new.buffer c.put_tree-number.new.needed c.put_tree-number.result) (search rules) (rw c.deref.ensures at c.put_tree-number.ensures)
