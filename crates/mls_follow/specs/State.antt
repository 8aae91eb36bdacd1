-- The state of a follower (RFC 9420, 8.1, 8.2, 11.2, 12.4 and 12.4.3.1). `profile` is the profile in which the group is followed.
-- Used by contracts.
use Rattle.std.specs.Prelude.{◌≡◌, ℕ, ◌≤◌, Bool, true, List, length, Option, Some}
use Rattle.mls_wire.specs.Limits.{input_limit}
use Rattle.mls_nodes.specs.declared.context.GroupContext.{GroupContext}
use Rattle.mls_tree.specs.Tree.{Tree}
use Rattle.mls_msgs.specs.Message.{message}
use Rattle.mls_msgs.specs.Profile.{is_members_message, is_in}
use Rattle.mls_msgs.specs.declared.profile.Profile.{Profile}
use Rattle.mls_msgs.specs.declared.message.Message.{Message}
use Rattle.mls_msgs.specs.declared.rules.Rules.{Rules}
use Rattle.mls_apply.specs.declared.list_item.KnownProposal.{KnownProposal}

-- The profile, the set of strict rules (own rule), the GroupContext, the tree, the interim transcript hash, the pending
-- proposals in the order in which they were accepted, whether the group is over: a commit with a ReInit was accepted (11.2);
-- and the KeyPackageRefs of the Adds of the last accepted commit, in the order of its list (5.2 and 12.4.3.1). `None` before
-- the first commit. No rule for messages depends on them.
pub record State : Type 0 where
  pub profile : Profile
  pub rules : Rules
  pub context : GroupContext
  pub tree : Tree
  pub interim : List ℕ
  pub known : List KnownProposal
  pub ended : Bool
  pub added : Option (List (List ℕ))

-- `EncodesMessage profile m bytes`: the bytes of an input encode the message, which is in the profile (6, 12.1). In the
-- members' profile it has no proposal of the types psk, reinit and external_init.
pub record EncodesMessage (profile : Profile) (m : Message) (bytes : List ℕ) : Type 0 where
  pub encoded : message m ≡ Some bytes
  pub allowed : is_in profile (is_members_message m) ≡ true
  pub bounded : length bytes ≤ input_limit

-- `HasEncoding profile m`: some bytes within the limit of an input are the encoding of the message, in the profile.
abbrev pub HasEncoding : Profile → Message → Type 0
HasEncoding profile m = (bytes : List ℕ) × EncodesMessage profile m bytes

-- The largest epoch that a GroupContext can hold: its number has 64 bits (RFC 9420, 8.1).
abbrev pub last_epoch : ℕ
last_epoch = 18446744073709551615
