use Rattle.std.proofs.Common.{◌≡◌, ◌++◌, map, vec_len}
use Rattle.std.specs.Prelude.{reverse}
use Rattle.mls_apply.specs.PathParents.{carried}
use Rattle.mls_apply.specs.PathModel.{change_of, path_parents_model}
use Rattle.mls_apply.proofs.path_merge.carried.Given as goal

abbrev pub invariant-loop-parent : goal.invariant-loop-parent
invariant-loop-parent l = l.hashes.items ++ reverse (map (λ p. p.parent.parent_hash) (map change_of l.parents.items)) ≡ carried (path_parents_model l.fn.new)

abbrev pub decreases-loop-parent : goal.decreases-loop-parent
decreases-loop-parent l = vec_len l.parents
