use Rattle.std.proofs.Common.{◌≡◌, length}
use Rattle.serde_json.specs.View.{items_view}
use Rattle.mls_vectors.specs.VectorFile.{are_objects}
use Rattle.mls_vectors.proofs.check.are_objects.Given as goal

-- what is asked of all is asked of those that are left
abbrev pub invariant-loop-value : goal.invariant-loop-value
invariant-loop-value l = are_objects (items_view l.values) ≡ are_objects (items_view l.rest)

abbrev pub decreases-loop-value : goal.decreases-loop-value
decreases-loop-value l = length l.rest
