-- What is read of an input in a profile.
use Rattle.std.proofs.Common.{◌≡◌, ◌∙◌, ℕ, ◌≤◌, List, length, Bool, true, false, Some, None, Ok, Err, refl, ap}
use Rattle.std.specs.Prelude.{if◌then◌else◌}
use Rattle.std.proofs.lemmas.Option.{none-some}
use Rattle.mls_wire.specs.Limits.{input_limit}
use Rattle.mls_wire.specs.ReadContracts.{DecodesInput}
use Rattle.mls_wire.specs.declared.fault.CodecFault.TheVariants as faults
use Rattle.mls_wire.specs.declared.fault.WireFault.{WireFault}
use Rattle.mls_msgs.specs.Message.{message}
use Rattle.mls_msgs.specs.Profile.{is_members_message, is_in, message_in}
use Rattle.mls_msgs.specs.declared.message.Message.{Message}
use Rattle.mls_msgs.specs.declared.profile.Profile.{Profile}
use Rattle.mls_follow.specs.Acceptance.{EncodesNoMessage}
use Rattle.mls_follow.specs.State.{EncodesMessage}

-- a message that was read
pub encodes : (profile : Profile) (m : Message) (bytes : List ℕ) → DecodesInput (message_in profile) bytes (Ok m) → EncodesMessage profile m bytes
unfolding message_in
encodes profile m bytes h = go (is_in profile (is_members_message m)) refl h
  where
    go : (b : Bool) → is_in profile (is_members_message m) ≡ b → ((if b then message m else None) ≡ Some bytes) × (length bytes ≤ input_limit) → EncodesMessage profile m bytes
    go true e k = record { encoded = k.0; allowed = e; bounded = k.1 }
    go false e k = absurd (none-some bytes k.0)

-- none that can be read
pub encodes_none : (profile : Profile) (bytes : List ℕ) (fault : WireFault) → DecodesInput (message_in profile) bytes (Err (faults.Wire fault)) → EncodesNoMessage profile bytes
unfolding message_in
encodes_none profile bytes fault h m is = h m (ap (λ (b : Bool). if b then message m else None) is.allowed ∙ is.encoded) is.bounded
