use Rattle.std.proofs.Common.{ap, arith, Some}
use Rattle.mls_tree.proofs.Numbers.{leaves_at-positive}
use Rattle.mls_tree.proofs.Coordinates.{root-seen, some_tree, IsNoSize-tree}
use Rattle.mls_tree.proofs.node_indices.root.Goals as goal

pub overflow_sub-result : goal.overflow_sub-result
overflow_sub-result c = omega (arith, leaves_at-positive c.in-Ok.field-0, c.in-Ok.ensures)

pub returns-in-Ok-clause-found : goal.returns-in-Ok-clause-found
returns-in-Ok-clause-found c = λ t e. ap (λ v. Some v) (root-seen t c.args.leaves e)

pub returns-in-Ok-clause-no_tree : goal.returns-in-Ok-clause-no_tree
returns-in-Ok-clause-no_tree c = λ none. let t = some_tree c.in-Ok.field-0 c.args.leaves c.in-Ok.ensures.0 c.in-Ok.ensures.1 in absurd (none t.0 t.1)

pub returns-in-Err-clause-found : goal.returns-in-Err-clause-found
returns-in-Err-clause-found c = λ t e. absurd (IsNoSize-tree c.in-Err.field-0 c.args.leaves c.in-Err.ensures t e)
