use Rattle.mls_check.proofs.Lone.{not_from, no_candidate, no_end}
use Rattle.mls_check.proofs.Resolutions.{resolution-rises}
use Rattle.mls_check.proofs.parent_hash_validity.chain_predecessor.Goals as goal

pub only_unlisted_node-requires-clause-node_indices : goal.only_unlisted_node-requires-clause-node_indices
only_unlisted_node-requires-clause-node_indices c = resolution-rises c.args.tree.now.tree c.args.child _ _ c.requires.sorted c.requires.consistent c.in-Ok.ensures.node_indices c.as_slice.ensures.value

pub returns-in_default : goal.returns-in_default
returns-in_default c = no_candidate c.args.tree.now.tree c.args.list.now c.args.child c.args.marks.now _ _ c.in-Ok.ensures.node_indices c.as_slice.ensures.value c.in_default.ensures

pub returns-then-not-ends_chain : goal.returns-then-not-ends_chain
returns-then-not-ends_chain c =
    no_end c.args.tree.now.tree c.args.list.now c.args.child c.args.marks.now _ _ c.in-Ok.ensures.node_indices c.as_slice.ensures.value c.in-Some.node_index c.in-Some.ensures
    (not_from _ c.ends_chain.ensures.1 c.if-not-ends_chain.true)
