use Rattle.mls_tree.specs.Tree.{Tree}
use Rattle.mls_signatures.specs.AddedLeaves.{IsMapOf}
use Rattle.mls_signatures.proofs.AddedLeaves.{Walked}
use Rattle.mls_signatures.proofs.new_leaf_signatures.push_replaced_leaf_signatures.Given as goal

abbrev pub invariant-loop-index : goal.invariant-loop-index
invariant-loop-index l = (t : Tree) → IsMapOf t l.after.tree.now.tree l.after.added.now
    → Walked l.context.cipher_suite l.context.group_id t l.initial.list l.replaced l.index-index l.list l.seen
