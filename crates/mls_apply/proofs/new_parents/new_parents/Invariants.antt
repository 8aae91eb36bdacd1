use Rattle.std.proofs.Common.{map, vec_len}
use Rattle.mls_hash.specs.SuiteHash.{hash_of}
use Rattle.mls_apply.specs.PathModel.{change_of}
use Rattle.mls_apply.proofs.Making.{IsPartWay}
use Rattle.mls_apply.proofs.new_parents.new_parents.Given as goal

abbrev pub invariant-loop-key : goal.invariant-loop-key
invariant-loop-key l = IsPartWay (hash_of l.suite) l.tree.tree l.above.leaf l.above.node_indices.now l.initial.keys.items l.keys.items (map change_of l.parents.items) l.hash

abbrev pub decreases-loop-key : goal.decreases-loop-key
decreases-loop-key l = vec_len l.keys
