-- Decoding a FramedContent with its authentication, as functions of the input. Internal: no public contract uses this,
-- except that of `Decode::read`.
use Rattle.std.specs.Prelude.{ℕ, List, Bool, Option, Some, None, if◌then◌else◌}
use Rattle.std.specs.Int.{w16}
use Rattle.mls_wire.specs.Input.{Input}
use Rattle.mls_wire.specs.Parsing.{◌>>=◌, number_at, vector_at}
use Rattle.mls_msgs.specs.Layout.{is_commit, is_member}
use Rattle.mls_msgs.specs.Parsing.{framed_content_at}
use Rattle.mls_msgs.specs.Authenticated.{is_frame_format}
use Rattle.mls_msgs.specs.declared.authenticated.AuthenticatedParts.{AuthenticatedParts}
use Rattle.mls_msgs.specs.declared.public_message.PublicParts.{PublicParts}

-- The wire format of a FramedContent.
unfoldable pub frame_format_at : Input → Option (ℕ × Input)
frame_format_at i = do
  n ← number_at w16 i
  if is_frame_format n.0 then Some n else None

-- A tag, if there is to be one.
unfoldable pub tag_if_at : Bool → Input → Option (Option (List ℕ) × Input)
tag_if_at needed i = if needed then (vector_at i >>= λ x. Some (Some x.0, x.1)) else Some (None, i)

-- The signature, and a confirmation tag exactly for a commit.
unfoldable pub frame_auth_at : Bool → Input → Option ((List ℕ × Option (List ℕ)) × Input)
frame_auth_at is_commit i = do
  signature ← vector_at i
  confirmation_tag ← tag_if_at is_commit signature.1
  Some ((signature.0, confirmation_tag.0), confirmation_tag.1)

-- A FramedContent and its authentication, for this wire format.
unfoldable pub signed_frame_at : ℕ → Input → Option (AuthenticatedParts × Input)
signed_frame_at wire_format i = do
  content ← framed_content_at i
  auth ← frame_auth_at (is_commit content.0.content) content.1
  Some (
    record {
      wire_format = wire_format;
      content = content.0;
      signature = auth.0.0;
      confirmation_tag = auth.0.1;
    },
    auth.1,
  )

-- An AuthenticatedContent.
unfoldable pub authenticated_content_at : Input → Option (AuthenticatedParts × Input)
authenticated_content_at i = do
  wire_format ← frame_format_at i
  signed_frame_at wire_format.0 wire_format.1

-- A PublicMessage.
unfoldable pub public_message_at : Input → Option (PublicParts × Input)
public_message_at i = do
  auth ← signed_frame_at 1 i
  membership_tag ← tag_if_at (is_member auth.0.content.sender) auth.1
  Some (record { auth = auth.0; membership_tag = membership_tag.0 }, membership_tag.1)
