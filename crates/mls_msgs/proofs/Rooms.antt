-- Room for a text whose size is known.
use Rattle.std.proofs.Common.{◌≡◌, ◌∙◌, ◌^◌, ◌<◌, ℕ, List, [], length, Option, Some, None, Err, refl, sym, ap, arith}
use Rattle.std.specs.Prelude.{IsSome}
use Rattle.mls_wire.specs.SaturatingSizes.{size}
use Rattle.mls_wire.specs.EncodedSizes.{sized_none_text, no_size_of}
use Rattle.mls_wire.specs.WriteContracts.{Added, Puts, MakesPiece}
use Rattle.mls_wire.specs.declared.fault.WireFault.{WireFault}
use Rattle.mls_wire.specs.declared.fault.CodecFault.{CodecFault}
use Rattle.mls_wire.specs.declared.fault.CodecFault.TheVariants as faults
use Rattle.mls_nodes.specs.TagSizes as nodes
use Rattle.mls_nodes.proofs.Drafted.{drafted, undrafted}
use Rattle.mls_msgs.specs.ReservedWrite.{MakesRoom}
use Rattle.mls_msgs.specs.Message.{message, IsMessageFault, MakesMessage}
use Rattle.mls_msgs.specs.declared.message.Message.{Message}

-- what has a size is a text
pub room_some : (n : Option ℕ) (text : Option (List ℕ)) → n ≡ size text → IsSome n → IsSome text
unfolding size
room_some n None e there = rw e at there
room_some n (Some t) e there = refl

-- where no room was made
pub no_room : (e : CodecFault) (n : Option ℕ) (text : Option (List ℕ)) → n ≡ size text → MakesRoom n (Err e) → MakesPiece text (Err e)
no_room (faults.Wire f) n text e made = (sized_none_text text (sym made.0 ∙ e), made.1)
no_room faults.OutOfMemory n text e made = room_some n text e made

-- bytes as they are
pub size_of_bytes : (text : List ℕ) → length text < 2 ^ 64 → size (Some text) ≡ Some (length text)
unfolding size
size_of_bytes text lt = ap (λ (n : ℕ). Some n) (omega arith)

-- no bytes
pub size_of_nothing : size (Some []) ≡ Some 0
unfolding size
size_of_nothing = refl

not_none : (text : Option (List ℕ)) → IsSome text → text ≡ None → ⊥
not_none None there none = absurd cc
not_none (Some t) there none = absurd cc

-- a message that has a spelling is refused for want of memory alone
pub message_unput : (e : CodecFault) (m : Message) (old new : Added) → IsSome (message m) → Puts {A = Unit {0}} (message m) old new (Err e) → MakesMessage m (Err e)
message_unput (faults.Wire f) m old new there put = absurd (not_none (message m) there put.0)
message_unput faults.OutOfMemory m old new there put = there

-- a message that has none
pub message_unmade : (m : Message) (f : WireFault) → None ≡ size (message m) → IsMessageFault m f → MakesMessage m (Err (faults.Wire f))
message_unmade m f e fault = (sized_none_text (message m) e, fault)

-- how a text is made into a draft that has room for it
pub ruleset made = (drafted, undrafted, no_room, room_some)

-- and how a message is
pub ruleset message_made = (drafted, room_some, message_unmade, message_unput)

-- how the sizes of a message's parts are put together
pub ruleset sizes = (nodes.tag_sizes, size_of_bytes, no_size_of)
