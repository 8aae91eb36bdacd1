-- The external senders of a group, which may send proposals to it (RFC 9420, 12.1.8.1). Used by contracts.
use Rattle.std.specs.Prelude.{◌≡◌, ℕ, List, [], Option, Some, None, Result, Ok, Err}
use Rattle.mls_wire.specs.declared.fault.CodecFault.{CodecFault}
use Rattle.mls_wire.specs.Parsing.{whole_at, list_at}
use Rattle.mls_wire.specs.ReadContracts.{DecodesAll}
use Rattle.mls_wire.specs.Encoding.{list}
use Rattle.mls_nodes.specs.declared.extension.Extension.{Extension}
use Rattle.mls_nodes.specs.declared.senders.ExternalSender.{ExternalSender}
use Rattle.mls_nodes.specs.Layout.{external_sender}
use Rattle.mls_nodes.specs.Parsing.{external_sender_at}
use Rattle.mls_nodes.specs.Requirements.{extension_of}

-- `FindsSenders data result`: a call returned the list whose encoding is all of the data, or no sender if there is no
-- data. On a wire fault the data is no such encoding.
abbrev pub FindsSenders : Option (List ℕ) → Result (List ExternalSender) CodecFault → Type 0
FindsSenders None (Ok senders) = senders ≡ []
FindsSenders None (Err e) = ⊥
FindsSenders (Some body) result = DecodesAll (list external_sender) body result

-- `HasSenders extensions senders`: the first extension of type 5 has these external senders (RFC 9420, 12.1.8.1).
abbrev pub HasSenders : List Extension → List ExternalSender → Type 0
HasSenders extensions senders = FindsSenders (extension_of 5 extensions) (Ok senders)

-- `senders_in data` is the external senders in the data of an extension of type 5, read from left to right.
abbrev pub senders_in : Option (List ℕ) → Option (List ExternalSender)
senders_in None = Some []
senders_in (Some body) = whole_at (list_at external_sender_at) body

-- `senders_by extensions` is the external senders as a function. By the theorem `senders_are_determined` it agrees with
-- `HasSenders`.
unfoldable pub senders_by : List Extension → Option (List ExternalSender)
senders_by extensions = senders_in (extension_of 5 extensions)
