use Rattle.mls_wire.specs.ExactTheorems.{unambiguous}
use Rattle.mls_state.specs.Layout.{group_mode, rule_set, follower_state, state_file}
use Rattle.mls_state.specs.Parsing.{group_mode_at, rule_set_at, follower_state_at, state_file_at}
use Rattle.mls_state.specs.StateExact.{group_mode_exact, rule_set_exact, follower_state_exact, state_file_exact}
use Rattle.mls_state.proofs.laws.unambiguous.Goals as goal

pub returns-clause-mode : goal.returns-clause-mode
returns-clause-mode c = unambiguous group_mode group_mode_at group_mode_exact

pub returns-clause-rules : goal.returns-clause-rules
returns-clause-rules c = unambiguous rule_set rule_set_at rule_set_exact

pub returns-clause-state : goal.returns-clause-state
returns-clause-state c = unambiguous follower_state follower_state_at follower_state_exact

pub returns-clause-file : goal.returns-clause-file
returns-clause-file c = unambiguous state_file state_file_at state_file_exact
