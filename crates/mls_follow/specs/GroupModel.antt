-- The model of the group that a follower holds: its state. Used by contracts.
use Rattle.std.specs.Prelude.{option_map}
use Rattle.mls_follow.specs.State.{State}
use Rattle.mls_follow.specs.declared.group.Group.{Group}

-- `group_state g` is the state of a group.
abbrev pub group_state : Group → State
group_state g = record {
  profile = g.profile;
  rules = g.rules;
  context = g.context;
  tree = g.tree.tree;
  interim = g.interim;
  known = g.known;
  ended = g.ended;
  added = option_map (λ v. v.items) g.added;
}
