-- The FramedContentTBS of a PublicMessage is the first part of its MLSMessage.
use Rattle.std.proofs.Common.{◌≡◌, ◌∙◌, ◌+◌, ◌-◌, ◌^◌, ◌<◌, ◌≤◌, ℕ, List, [], ◌++◌, length, take, append_assoc, Some, None, refl, sym, ap, arith}
use Rattle.std.specs.Prelude.{nat_eq}
use Rattle.std.specs.Int.{w16}
use Rattle.std.proofs.lemmas.Bool.{eqb-true}
use Rattle.std.proofs.lemmas.List.{append-nil, length-append, take_at}
use Rattle.mls_wire.specs.Encoding.{◌⊕◌, number}
use Rattle.mls_wire.specs.EncodingConcat.{join, joined}
use Rattle.mls_wire.specs.SaturatingSizes.{size}
use Rattle.mls_wire.specs.EncodedSizes.{sized_text, sized_none_text}
use Rattle.mls_wire.specs.OptionBind.{allowed, some_is}
use Rattle.mls_msgs.specs.Layout.{framed_content, is_commit, is_member}
use Rattle.mls_msgs.specs.Authenticated.{frame_auth, signed_frame, tag_if}
use Rattle.mls_msgs.specs.PublicMessage.{public_frame, public_message, after_content}
use Rattle.mls_msgs.specs.Message.{header, message}
use Rattle.mls_msgs.specs.Tbs.{content_tbs, given_context}
use Rattle.mls_msgs.specs.declared.authenticated.AuthenticatedParts.{AuthenticatedParts}
use Rattle.mls_msgs.specs.declared.public_message.PublicParts.{PublicParts}
use Rattle.mls_msgs.specs.declared.message.Message.TheVariants.{Public}

-- the wire format and the content, as a header and a FramedContent
content_in : (a : AuthenticatedParts) (head content : List ℕ) → a.wire_format ≡ 1 → header 1 ≡ Some head
    → framed_content a.content ≡ Some content → content_tbs a None ≡ Some (head ++ content)
unfolding header content_tbs given_context
content_in a head content format h c =
    let parts = joined (number w16 1) (number w16 1) head h in
    let second : number w16 a.wire_format ≡ Some parts.1 = ap (number w16) format ∙ parts.3 in
    let last = join (framed_content a.content) (Some []) content [] c refl in
    let rest = join (number w16 a.wire_format) (framed_content a.content ⊕ Some []) parts.1 (content ++ []) second last in
    join (number w16 1) (number w16 a.wire_format ⊕ (framed_content a.content ⊕ Some [])) parts.0 (parts.1 ++ (content ++ [])) parts.2 rest
    ∙ ap (λ (t : List ℕ). Some t)
    (ap (λ (t : List ℕ). parts.0 ++ (parts.1 ++ t)) (append-nil content)
    ∙ sym (append_assoc parts.0 parts.1 content) ∙ ap (λ (t : List ℕ). t ++ content) (sym parts.4))

-- the two parts of a PublicMessage: the content, and what follows it
body_parts : (p : PublicParts) (body : List ℕ) → public_message p ≡ Some body
    → (content rest : List ℕ) × (p.auth.wire_format ≡ 1) × (framed_content p.auth.content ≡ Some content) × (after_content p ≡ Some rest)
    × (body ≡ content ++ rest)
unfolding public_message public_frame signed_frame after_content
body_parts p body e =
    let auth_data = frame_auth (is_commit p.auth.content.content) (p.auth.signature, p.auth.confirmation_tag) in
    let tag = tag_if (is_member p.auth.content.sender) p.membership_tag in
    let both = joined (public_frame p.auth) tag body e in
    let framed = allowed (nat_eq p.auth.wire_format 1) (signed_frame p.auth) both.0 both.2 in
    let frame = joined (framed_content p.auth.content) auth_data both.0 framed.1 in (
      frame.0,
      frame.1 ++ both.1,
      eqb-true p.auth.wire_format 1 framed.0,
      frame.2,
      join auth_data tag frame.1 both.1 frame.3 both.3,
      both.4 ∙ ap (λ (t : List ℕ). t ++ both.1) frame.4 ∙ append_assoc frame.0 frame.1 both.1,
    )

-- the two parts of an MLSMessage: what is signed of it, and what follows that
message_parts : (p : PublicParts) (bytes : List ℕ) → message (Public p) ≡ Some bytes
    → (front rest : List ℕ) × (content_tbs p.auth None ≡ Some front) × (after_content p ≡ Some rest) × (bytes ≡ front ++ rest)
unfolding message
message_parts p bytes e =
    let both = joined (header 1) (public_message p) bytes e in
    let body = body_parts p both.1 both.3 in (
      both.0 ++ body.0,
      body.1,
      content_in p.auth both.0 body.0 body.2 both.2 body.3,
      body.4,
      both.4 ∙ ap (λ (t : List ℕ). both.0 ++ t) body.5 ∙ sym (append_assoc both.0 body.0 body.1),
    )

-- what follows has a length
pub is_sized : (p : PublicParts) (bytes : List ℕ) → message (Public p) ≡ Some bytes → None ≡ size (after_content p) → ⊥
is_sized p bytes e none =
    let absent = sized_none_text (after_content p) none in
    let there = (message_parts p bytes e).3 in
    let bad = sym absent ∙ there in absurd cc

-- by which what is signed is found
pub front_is : (p : PublicParts) (bytes : List ℕ) (n : ℕ) → message (Public p) ≡ Some bytes → Some n ≡ size (after_content p)
    → length bytes < 2 ^ 64 → (n ≤ length bytes) × (content_tbs p.auth None ≡ Some (take (length bytes - n) bytes))
front_is p bytes n e sized lt =
    let parts = message_parts p bytes e in
    let text = sized_text (after_content p) n sized in
    let same : text.0 ≡ parts.1 = some_is _ _ (sym text.1 ∙ parts.3) in
    let long : length bytes ≡ length parts.0 + length parts.1 = ap length parts.4 ∙ length-append parts.0 parts.1 in
    let rest : n ≡ length parts.1 = omega (arith, ap length same, text.2, long, lt) in
    let front : length parts.0 ≡ length bytes - n = omega (arith, long, rest) in (
      omega (arith, long, rest),
      parts.2 ∙ ap (λ (t : List ℕ). Some t) (sym (ap (take (length bytes - n)) parts.4 ∙ take_at parts.0 parts.1 (length bytes - n) front)),
    )
