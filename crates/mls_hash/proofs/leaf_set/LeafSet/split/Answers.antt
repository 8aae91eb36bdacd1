use Rattle.mls_hash.proofs.Sets.{rest_rises, rest_from}
use Rattle.mls_hash.proofs.leaf_set.LeafSet.split.Goals as goal

pub invariant_of-result-2 : goal.invariant_of-result-2
invariant_of-result-2 c = rest_rises c.split_leaves.result.0.now c.split_leaves.result.1.now c.self.inside.leaves.now c.split_leaves.ensures.whole c.self.invariant

pub returns-clause-rest : goal.returns-clause-rest
returns-clause-rest c =
    rest_from c.split_leaves.result.1.now c.args.middle
    (rest_rises c.split_leaves.result.0.now c.split_leaves.result.1.now c.self.inside.leaves.now c.split_leaves.ensures.whole c.self.invariant)
    c.split_leaves.ensures.rest
