use Rattle.std.proofs.Common.{List, Option, Err, subst}
use Rattle.mls_nodes.specs.NodeModel.{NodeValue}
use Rattle.mls_nodes.specs.RatchetTreeContracts.{EncodesTree}
use Rattle.mls_tree.specs.PublicTreeModel.{plain}
use Rattle.mls_follow.proofs.Storing.{unstorable_tree}
use Rattle.mls_follow.proofs.stored_state.tree_body.Goals as goal

pub returns-in-Err-clause-none : goal.returns-in-Err-clause-none
returns-in-Err-clause-none c =
    rw c.storing_fault.ensures (unstorable_tree (plain c.args.tree.now) c.in-Err.fault (subst (λ (xs : List (Option NodeValue)). EncodesTree xs (Err c.in-Err.fault)) c.nodes.ensures c.in-Err.ensures.encoded))
