-- The model of a follower: its state, and its checker. Used by contracts.
use Rattle.mls_follow.specs.State.{State}
use Rattle.mls_follow.specs.GroupModel.{group_state}
use Rattle.mls_follow.specs.declared.follower.Follower.{Follower}

-- `state_of f` is the state of a follower.
abbrev pub state_of : {C : Type 0} {g : _} → Follower C g → State
state_of f = group_state f.group

-- `checker_of f` is the checker of a follower.
abbrev pub checker_of : {C : Type 0} {g : _} → Follower C g → C
checker_of f = f.checker
