use Rattle.std.proofs.Common.{◌++◌, List, length, map}
use Rattle.serde_json.specs.View.{items_view}
use Rattle.mls_vectors.specs.CheckReport.{AreOutcomes}
use Rattle.mls_vectors.specs.CheckModel.{outcome_of}
use Rattle.mls_vectors.specs.VectorResults.{VectorResult}
use Rattle.mls_vectors.proofs.check.outcomes_by.Given as goal

-- the outcomes so far, with those of the vectors that are left, are those of all
abbrev pub invariant-loop-vector : goal.invariant-loop-vector
invariant-loop-vector l =
    (more : List VectorResult) → AreOutcomes l.kind (items_view l.rest) more
    → AreOutcomes l.kind (items_view l.vectors) (map outcome_of l.outcomes.items ++ more)

abbrev pub decreases-loop-vector : goal.decreases-loop-vector
decreases-loop-vector l = length l.rest
