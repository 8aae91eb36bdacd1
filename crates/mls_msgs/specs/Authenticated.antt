-- AuthenticatedContent and its encoding (RFC 9420, 6 and 6.1). Used by contracts.
use Rattle.std.specs.Prelude.{ℕ, List, [], Bool, true, false, Option, Some, None, nat_eq, ◌&&◌, ◌||◌, if◌then◌else◌}
use Rattle.std.specs.Int.{w16}
use Rattle.mls_wire.specs.Encoding.{◌⊕◌, number, vector}
use Rattle.mls_msgs.specs.Layout.{is_commit, framed_content}
use Rattle.mls_msgs.specs.declared.authenticated.AuthenticatedParts.{AuthenticatedParts}

-- `is_frame_format n`: a FramedContent is sent in this wire format, PublicMessage 1 or PrivateMessage 2 (RFC 9420, 6).
abbrev pub is_frame_format : ℕ → Bool
is_frame_format n = nat_eq n 1 || nat_eq n 2

-- `tag_fits is_needed tag`: there is a tag if and only if one is needed.
abbrev pub tag_fits : Bool → Option (List ℕ) → Bool
tag_fits true (Some t) = true
tag_fits true None = false
tag_fits false (Some t) = false
tag_fits false None = true

-- `is_authenticated a`: the wire format is that of a FramedContent, and there is a confirmation tag if and only if the
-- content is a commit (RFC 9420, 6.1).
abbrev pub is_authenticated : AuthenticatedParts → Bool
is_authenticated a = is_frame_format a.wire_format && tag_fits (is_commit a.content.content) a.confirmation_tag

-- `frame_format n` is the encoding of the wire format of a FramedContent (RFC 9420, 6).
unfoldable pub frame_format : ℕ → Option (List ℕ)
frame_format n = if is_frame_format n then number w16 n else None

-- `tag_if is_needed tag` is the encoding of a tag if one is needed, and empty otherwise. `None` if the tag does not
-- fit.
unfoldable pub tag_if : Bool → Option (List ℕ) → Option (List ℕ)
tag_if true (Some t) = vector t
tag_if true None = None
tag_if false (Some t) = None
tag_if false None = Some []

-- `frame_auth is_commit a` is the encoding of FramedContentAuthData: the signature, and the confirmation tag if and
-- only if it is a commit (RFC 9420, 6.1).
unfoldable pub frame_auth : Bool → List ℕ × Option (List ℕ) → Option (List ℕ)
frame_auth is_commit a = vector a.0 ⊕ tag_if is_commit a.1

-- `signed_frame a` is the encoding of the FramedContent and its FramedContentAuthData (RFC 9420, 6).
unfoldable pub signed_frame : AuthenticatedParts → Option (List ℕ)
signed_frame a = framed_content a.content ⊕ frame_auth (is_commit a.content.content) (a.signature, a.confirmation_tag)

-- `authenticated_content a` is the encoding of an AuthenticatedContent (RFC 9420, 6).
unfoldable pub authenticated_content : AuthenticatedParts → Option (List ℕ)
authenticated_content a = frame_format a.wire_format ⊕ signed_frame a
