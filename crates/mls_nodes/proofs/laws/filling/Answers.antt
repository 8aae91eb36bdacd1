use Rattle.mls_nodes.specs.FilledTree.{filled-full, filled-capacity, filled-least, filled-front, filled-back}
use Rattle.mls_nodes.proofs.Trimming.{tree_again_trimmed}
use Rattle.mls_nodes.proofs.laws.filling.Goals as goal

pub returns-clause-full : goal.returns-clause-full
returns-clause-full c = filled-full

pub returns-clause-capacity : goal.returns-clause-capacity
returns-clause-capacity c = filled-capacity

pub returns-clause-least : goal.returns-clause-least
returns-clause-least c = filled-least

pub returns-clause-front : goal.returns-clause-front
returns-clause-front c = filled-front

pub returns-clause-back : goal.returns-clause-back
returns-clause-back c = filled-back

pub returns-clause-again : goal.returns-clause-again
returns-clause-again c = tree_again_trimmed
