-- Reading a state file from left to right. Internal: no public contract uses this, except that of `Decode::read`.
use Rattle.std.specs.Prelude.{◌≡◌, ◌^◌, ℕ, refl, Bool, true, false, Option, Some, None, nat_eq, nat_lt, if◌then◌else◌}
use Rattle.std.proofs.lemmas.Bool.{ltb-true}
use Rattle.std.specs.Int.{w8, w16}
use Rattle.mls_wire.specs.Input.{Input}
use Rattle.mls_wire.specs.Parsing.{◌>>=◌, number_at, vector_at, list_at}
use Rattle.mls_wire.specs.ParsingInternal.{optional_at}
use Rattle.mls_nodes.specs.ParsingInternal.{group_context_at}
use Rattle.mls_msgs.specs.FrameParsing.{authenticated_content_at}
use Rattle.mls_msgs.specs.declared.rules.Rules.{Rules}
use Rattle.mls_state.specs.declared.state.FollowerState.{FollowerState}
use Rattle.mls_state.specs.declared.state.GroupMode.{GroupMode}
use Rattle.mls_state.specs.declared.state.GroupMode.TheVariants.{Members, Full, Ended}
use Rattle.mls_state.specs.declared.file.StateFile.{StateFile}

-- what follows the members' profile: the group goes on
unfoldable pub members_phase_at : Input → Option (GroupMode × Input)
members_phase_at i = do
  tag ← number_at w8 i
  if nat_eq tag.0 0 then Some (Members, tag.1) else None

-- what follows the full profile: whether the group is over
unfoldable pub full_phase_at : Input → Option (GroupMode × Input)
full_phase_at i = do
  tag ← number_at w8 i
  if nat_eq tag.0 0 then Some (Full, tag.1) else (if nat_eq tag.0 1 then Some (Ended, tag.1) else None)

-- a profile, and whether the group is over
unfoldable pub group_mode_at : Input → Option (GroupMode × Input)
group_mode_at i = do
  tag ← number_at w8 i
  if nat_eq tag.0 1 then members_phase_at tag.1 else (if nat_eq tag.0 2 then full_phase_at tag.1 else None)

-- the set of strict rules with this number, if `fits` says that no bit above bit 12 is 1
abbrev pub rules_if : (bits : ℕ) (fits : Bool) → nat_lt bits (2 ^ 13) ≡ fits → Option Rules
rules_if bits true e = Some (record { members = bits; fits = ltb-true bits (2 ^ 13) e })
rules_if bits false e = None

-- the set of strict rules that a number encodes, if no bit above bit 12 is 1
unfoldable pub rules_of : ℕ → Option Rules
rules_of bits = rules_if bits (nat_lt bits (2 ^ 13)) refl

-- a set of strict rules
unfoldable pub rule_set_at : Input → Option (Rules × Input)
rule_set_at i = do
  bits ← number_at w16 i
  rules ← rules_of bits.0
  Some (rules, bits.1)

-- a state
unfoldable pub follower_state_at : Input → Option (FollowerState × Input)
follower_state_at i = do
  mode ← group_mode_at i
  rules ← rule_set_at mode.1
  context ← group_context_at rules.1
  interim ← vector_at context.1
  tree ← vector_at interim.1
  known ← list_at authenticated_content_at tree.1
  added ← optional_at (list_at vector_at) known.1
  Some (
    record {
      mode = mode.0;
      rules = rules.0;
      context = context.0;
      interim = interim.0;
      tree = tree.0;
      known = known.0;
      added = added.0;
    },
    added.1,
  )

-- a file
unfoldable pub state_file_at : Input → Option (StateFile × Input)
state_file_at i = do
  version ← number_at w16 i
  if nat_eq version.0 2
      then (vector_at version.1 >>= λ c. follower_state_at c.1 >>= λ s. Some (record { checksum = c.0; state = s.0 }, s.1))
      else None
