use Rattle.std.proofs.Common.{◌≡◌, length}
use Rattle.serde_json.specs.View.{items_view}
use Rattle.mls_vectors.specs.TreeValidation as trees
use Rattle.mls_vectors.proofs.tree_validation.are_numbers.Given as goal

-- what is asked of all is asked of those that are left
abbrev pub invariant-loop-value : goal.invariant-loop-value
invariant-loop-value l = trees.are_numbers l.fn.numbers (items_view l.fn.values) ≡ trees.are_numbers l.numbers (items_view l.values)

abbrev pub decreases-loop-value : goal.decreases-loop-value
decreases-loop-value l = length l.values
