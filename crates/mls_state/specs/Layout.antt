-- The layout of a state file (own layout; the parts are encoded as RFC 9420 has them). Used by contracts. A value that is
-- over a limit has no encoding.
use Rattle.std.specs.Prelude.{ℕ, List, Option}
use Rattle.std.specs.Int.{w8, w16}
use Rattle.mls_wire.specs.Encoding.{◌⊕◌, number, vector, list, optional}
use Rattle.mls_nodes.specs.Layout.{group_context}
use Rattle.mls_msgs.specs.Authenticated.{authenticated_content}
use Rattle.mls_msgs.specs.Rules.{rule_bits}
use Rattle.mls_msgs.specs.declared.rules.Rules.{Rules}
use Rattle.mls_state.specs.declared.state.FollowerState.{FollowerState}
use Rattle.mls_state.specs.declared.state.GroupMode.{GroupMode}
use Rattle.mls_state.specs.declared.state.GroupMode.TheVariants.{Members, Full, Ended}
use Rattle.mls_state.specs.declared.file.StateFile.{StateFile}

-- `group_mode m` is the encoding of the profile, and of whether the group is over: 1 for the members' profile, 2 for the full
-- one; then 0 for a group that goes on, 1 for one that is over (11.2). In the members' profile no group is over
unfoldable pub group_mode : GroupMode → Option (List ℕ)
group_mode Members = number w8 1 ⊕ number w8 0
group_mode Full = number w8 2 ⊕ number w8 0
group_mode Ended = number w8 2 ⊕ number w8 1

-- `rule_set r` is the encoding of the number that encodes the set of strict rules `r`: bit n - 40 is 1 if and only if the set
-- has rule n (own rule)
unfoldable pub rule_set : Rules → Option (List ℕ)
rule_set r = number w16 (rule_bits r)

-- `follower_state s` is the encoding of a state: the profile with whether the group is over, the strict rules, the context
-- (8.1), the interim transcript hash (8.2), the ratchet tree (12.4.3.3), the proposals received in the current epoch (12.4)
-- as AuthenticatedContents (6), and the KeyPackageRefs (5.2) of the Adds of the last accepted commit
unfoldable pub follower_state : FollowerState → Option (List ℕ)
follower_state s =
    group_mode s.mode ⊕ rule_set s.rules ⊕ group_context s.context ⊕ vector s.interim ⊕ vector s.tree
    ⊕ list authenticated_content s.known ⊕ optional (list vector) s.added

-- `state_file f` is the encoding of a file: version 2, the checksum and the state
unfoldable pub state_file : StateFile → Option (List ℕ)
state_file f = number w16 2 ⊕ vector f.checksum ⊕ follower_state f.state
