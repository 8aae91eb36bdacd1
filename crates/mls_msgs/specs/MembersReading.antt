-- What the search for a proposal type outside the members' profile shows of the value that is read. Internal: no public
-- contract uses this.
use Rattle.std.specs.Prelude.{List, Bool, true, Option, Some, None}
use Rattle.mls_wire.specs.Input.{Input}
use Rattle.mls_msgs.specs.Profile.{are_members_entries, is_members_message}
use Rattle.mls_msgs.specs.declared.proposal.ProposalOrRef.{ProposalOrRef}
use Rattle.mls_msgs.specs.declared.message.Message.{Message}

-- `passes test o` is true if and only if `o` has no value that was read, or one of which `test` is true.
abbrev pub passes : {A : Type 0} → (A → Bool) → Option (A × Input) → Bool
passes test None = true
passes test (Some x) = test x.0

-- `entries_pass o` is true if and only if `o` has no entries that were read, or entries in the members' profile.
abbrev pub entries_pass : Option (List ProposalOrRef) → Bool
entries_pass None = true
entries_pass (Some es) = are_members_entries es

-- `message_passes o` is true if and only if `o` has no message that was read, or one in the members' profile.
abbrev pub message_passes : Option Message → Bool
message_passes None = true
message_passes (Some m) = is_members_message m
