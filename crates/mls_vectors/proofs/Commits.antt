-- Commits that vectors have.
use Rattle.std.proofs.Common.{◌≡◌, ◌++◌, ℕ, List, true, false, Option, Some, None, IsSome, refl, sym, subst}
use Rattle.std.specs.Prelude.{if◌then◌else◌}
use Rattle.std.specs.Int.{w16}
use Rattle.std.proofs.lemmas.Option.{none-some}
use Rattle.mls_wire.specs.EncodingConcat.{joined, join}
use Rattle.mls_wire.specs.Encoding.{◌⊕◌, number, vector}
use Rattle.mls_wire.specs.OptionBind.{allowed}
use Rattle.mls_msgs.specs.Authenticated.{authenticated_content, is_frame_format, frame_format, tag_if, signed_frame, frame_auth}
use Rattle.mls_msgs.specs.Layout.{framed_content, is_commit}
use Rattle.mls_msgs.specs.Profile.{is_members_authenticated, authenticated_in}
use Rattle.mls_msgs.specs.Tbs.{confirmed_input}
use Rattle.mls_msgs.specs.declared.profile.Profile.TheVariants.{Members}
use Rattle.mls_msgs.specs.declared.authenticated.AuthenticatedParts.{AuthenticatedParts}
use Rattle.mls_msgs.proofs.Profiles.{authenticated_once}

-- what is encoded in the members' profile is encoded
encoded : (a : AuthenticatedParts) (bytes : List ℕ) → authenticated_in Members a ≡ Some bytes → authenticated_content a ≡ Some bytes
unfolding authenticated_in
encoded a bytes e = (allowed (is_members_authenticated a) (authenticated_content a) bytes e).1

-- bytes encode at most one AuthenticatedContent in the members' profile
pub authenticated_one : (x y : AuthenticatedParts) (bytes : List ℕ) → authenticated_in Members x ≡ Some bytes → authenticated_in Members y ≡ Some bytes → x ≡ y
authenticated_one x y bytes p q = authenticated_once x y bytes (encoded x bytes p) (encoded y bytes q)

there : (o : Option (List ℕ)) (x : List ℕ) → o ≡ Some x → IsSome o
there o x e = subst (λ (y : Option (List ℕ)). IsSome y) (sym e) refl

formatted : (n : ℕ) (x : List ℕ) → frame_format n ≡ Some x → number w16 n ≡ Some x
unfolding frame_format
formatted n x e =
    elim (is_frame_format n) as (λ b. (if b then number w16 n else None) ≡ Some x → number w16 n ≡ Some x) [
      | true ↦ λ h. h
      | false ↦ λ h. absurd (none-some x h)
    ] e

-- the part of an encoded AuthenticatedContent that is hashed has an encoding
pub input_there : (a : AuthenticatedParts) (bytes : List ℕ) → authenticated_in Members a ≡ Some bytes → IsSome (confirmed_input a)
unfolding authenticated_content signed_frame frame_auth confirmed_input
input_there a bytes e =
    let whole = joined (frame_format a.wire_format) (signed_frame a) bytes (encoded a bytes e) in
    let parts = joined (framed_content a.content) (frame_auth (is_commit a.content.content) (a.signature, a.confirmation_tag)) whole.1 whole.3 in
    let signed = joined (vector a.signature) (tag_if (is_commit a.content.content) a.confirmation_tag) parts.1 parts.3 in
    there (confirmed_input a) (whole.0 ++ (parts.0 ++ signed.0))
    (join (number w16 a.wire_format) (framed_content a.content ⊕ vector a.signature) whole.0 (parts.0 ++ signed.0) (formatted a.wire_format whole.0 whole.2)
    (join (framed_content a.content) (vector a.signature) parts.0 signed.0 parts.2 signed.2))
