-- PrivateMessage and its encoding (RFC 9420, 6.3). Used by contracts.
use Rattle.std.specs.Prelude.{ℕ, List, Option}
use Rattle.std.specs.Int.{w8, w64}
use Rattle.mls_wire.specs.Encoding.{◌⊕◌, number, vector}
use Rattle.mls_msgs.specs.declared.private_message.PrivateContent.{PrivateContent}
use Rattle.mls_msgs.specs.declared.private_message.PrivateContent.TheVariants.{Application, Proposal, Commit}
use Rattle.mls_msgs.specs.declared.private_message.PrivateMessage.{PrivateMessage}

-- `content_type c` is the encoding of a ContentType (RFC 9420, 6).
unfoldable pub content_type : PrivateContent → Option (List ℕ)
content_type Application = number w8 1
content_type Proposal = number w8 2
content_type Commit = number w8 3

-- `private_message m` is the encoding of a PrivateMessage (RFC 9420, 6.3).
unfoldable pub private_message : PrivateMessage → Option (List ℕ)
private_message m =
    vector m.group_id ⊕ number w64 m.epoch ⊕ content_type m.content_type ⊕ vector m.authenticated_data
    ⊕ vector m.encrypted_sender_data ⊕ vector m.ciphertext
