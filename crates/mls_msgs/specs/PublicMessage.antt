-- PublicMessage and its encoding (RFC 9420, 6.2). Used by contracts.
use Rattle.std.specs.Prelude.{ℕ, List, Bool, Option, None, nat_eq, ◌&&◌, if◌then◌else◌}
use Rattle.mls_wire.specs.Encoding.{◌⊕◌}
use Rattle.mls_msgs.specs.Layout.{is_member, is_commit}
use Rattle.mls_msgs.specs.Authenticated.{tag_if, tag_fits, frame_auth, signed_frame}
use Rattle.mls_msgs.specs.declared.authenticated.AuthenticatedParts.{AuthenticatedParts}
use Rattle.mls_msgs.specs.declared.public_message.PublicParts.{PublicParts}

-- `is_public p`: the wire format is 1, and there is a membership tag if and only if the sender is a member (RFC 9420,
-- 6.2).
abbrev pub is_public : PublicParts → Bool
is_public p = nat_eq p.auth.wire_format 1 && tag_fits (is_member p.auth.content.sender) p.membership_tag

-- `public_frame a` is the encoding of the signed content of a PublicMessage, whose wire format is 1 (RFC 9420, 6.2).
unfoldable pub public_frame : AuthenticatedParts → Option (List ℕ)
public_frame a = if nat_eq a.wire_format 1 then signed_frame a else None

-- `public_message p` is the encoding of a PublicMessage: its signed content, and the membership tag if and only if the
-- sender is a member (RFC 9420, 6.2).
unfoldable pub public_message : PublicParts → Option (List ℕ)
public_message p = public_frame p.auth ⊕ tag_if (is_member p.auth.content.sender) p.membership_tag

-- `after_content p` is the encoding of what follows the FramedContent in a PublicMessage: the FramedContentAuthData, and the
-- membership tag if and only if the sender is a member (RFC 9420, 6.2). Internal: no public contract uses this.
unfoldable pub after_content : PublicParts → Option (List ℕ)
after_content p =
    frame_auth (is_commit p.auth.content.content) (p.auth.signature, p.auth.confirmation_tag)
    ⊕ tag_if (is_member p.auth.content.sender) p.membership_tag
