use Rattle.mls_tree.proofs.Coordinates.{level_at-node_index, no_tree_of}
use Rattle.mls_tree.proofs.node_indices.level.Goals as goal

pub returns-in-Some-clause-found : goal.returns-in-Some-clause-found
returns-in-Some-clause-found c = λ t e. level_at-node_index t _ _ e _ c.in-Some.ensures

pub returns-in-Some-clause-no_tree : goal.returns-in-Some-clause-no_tree
returns-in-Some-clause-no_tree c = λ none. absurd (no_tree_of _ _ _ c.in-Some.ensures none)
