-- What has a spelling where a whole message has one.
use Rattle.std.proofs.Common.{◌≡◌, ◌∙◌, ◌++◌, ℕ, ◌≤◌, List, [], ◌∷◌, length, true, false, Option, Some, None, IsSome, refl, sym, ap, subst, eqb-true, arith, length-append}
use Rattle.std.specs.Prelude.{nat_eq, if◌then◌else◌, option_map, option_and_then}
use Rattle.std.specs.Int.{w8, w16, w64}
use Rattle.std.proofs.lemmas.Option.{none-some, same_Some}
use Rattle.mls_wire.specs.EncodingConcat.{joined, join}
use Rattle.mls_wire.specs.EncodedSizes.{vector_some}
use Rattle.mls_wire.specs.Encoding.{◌⊕◌, number, vector}
use Rattle.mls_hash.specs.SuiteHash.{hash_of, ref_hash_input}
use Rattle.mls_msgs.specs.Authenticated.{tag_if, frame_format, signed_frame, frame_auth, authenticated_content}
use Rattle.mls_msgs.specs.Layout.{commit, sender, proposal, content, framed_content, is_member, is_commit}
use Rattle.mls_msgs.specs.Message.{header, message}
use Rattle.mls_msgs.specs.PublicMessage.{public_frame, public_message}
use Rattle.mls_msgs.specs.Tbs.{confirmed_input, reference_label}
use Rattle.mls_msgs.specs.declared.authenticated.AuthenticatedParts.{AuthenticatedParts}
use Rattle.mls_msgs.specs.declared.commit.Commit.{Commit}
use Rattle.mls_msgs.specs.declared.framed_content.Content.{Content}
use Rattle.mls_msgs.specs.declared.framed_content.Content.TheVariants as contents
use Rattle.mls_msgs.specs.declared.framed_content.FramedContent.{FramedContent}
use Rattle.mls_msgs.specs.declared.message.Message.TheVariants as messages
use Rattle.mls_msgs.specs.declared.proposal.Proposal.{Proposal}
use Rattle.mls_msgs.specs.declared.public_message.PublicParts.{PublicParts}
use Rattle.mls_apply.proofs.Encodings.{both_encoded, mapped}
use Rattle.mls_follow.specs.Acceptance.{ReferencesExist}

there : (o : Option (List ℕ)) (x : List ℕ) → o ≡ Some x → IsSome o
there o x e = subst (λ (y : Option (List ℕ)). IsSome y) (sym e) refl

-- a frame's parts
framed : (a : AuthenticatedParts) (x : List ℕ) → public_frame a ≡ Some x → (a.wire_format ≡ 1) × (signed_frame a ≡ Some x)
unfolding public_frame
framed a x =
    elim (nat_eq a.wire_format 1) as (λ b. nat_eq a.wire_format 1 ≡ b → (if b then signed_frame a else None) ≡ Some x → (a.wire_format ≡ 1) × (signed_frame a ≡ Some x)) [
      | true ↦ λ t e. (eqb-true a.wire_format 1 t, e)
      | false ↦ λ t e. absurd (none-some x e)
    ] refl

number_one : (n : ℕ) → n ≡ 1 → number w16 n ≡ Some (0 ∷ 1 ∷ [])
unfolding number
number_one n e = ap (number w16) e ∙ refl

encoding_of : (o : Option (List ℕ)) → IsSome o → (x : List ℕ) × (o ≡ Some x)
encoding_of None h = absurd (cc)
encoding_of (Some x) h = (x, refl)

encoded_parts : (p : PublicParts) (bytes : List ℕ) → message (messages.Public p) ≡ Some bytes → IsSome (confirmed_input p.auth)
unfolding message public_message signed_frame frame_auth confirmed_input
encoded_parts p bytes e =
    let whole = joined (header 1) (public_message p) bytes e in
    let body = joined (public_frame p.auth) (tag_if (is_member p.auth.content.sender) p.membership_tag) whole.1 whole.3 in
    let frame = framed p.auth body.0 body.2 in
    let parts = joined (framed_content p.auth.content) (frame_auth (is_commit p.auth.content.content) (p.auth.signature, p.auth.confirmation_tag)) body.0 frame.1 in
    let signed = joined (vector p.auth.signature) (tag_if (is_commit p.auth.content.content) p.auth.confirmation_tag) parts.1 parts.3 in
    there (confirmed_input p.auth) ((0 ∷ 1 ∷ []) ++ (parts.0 ++ signed.0))
    (join (number w16 p.auth.wire_format) (framed_content p.auth.content ⊕ vector p.auth.signature) (0 ∷ 1 ∷ []) (parts.0 ++ signed.0) (number_one p.auth.wire_format frame.0)
    (join (framed_content p.auth.content) (vector p.auth.signature) parts.0 signed.0 parts.2 signed.2))

-- of a message in the open: what of it goes into the transcript hash
pub confirmed_exists : (p : PublicParts) → IsSome (message (messages.Public p)) → IsSome (confirmed_input p.auth)
confirmed_exists p there = let s = encoding_of (message (messages.Public p)) there in encoded_parts p s.0 s.1

-- its reference
frame_one : (n : ℕ) → n ≡ 1 → frame_format n ≡ Some (0 ∷ 1 ∷ [])
unfolding frame_format number
frame_one n e = ap frame_format e ∙ refl

header_one : (x : List ℕ) → header 1 ≡ Some x → length x ≡ 4
unfolding header number ◌⊕◌
header_one x e = ap length (sym (same_Some (0 ∷ 1 ∷ 0 ∷ 1 ∷ []) x e))

authenticated : (p : PublicParts) (bytes : List ℕ) → message (messages.Public p) ≡ Some bytes
    → (value : List ℕ) × (authenticated_content p.auth ≡ Some value) × (length value ≤ length bytes)
unfolding message public_message authenticated_content
authenticated p bytes e =
    let whole = joined (header 1) (public_message p) bytes e in
    let body = joined (public_frame p.auth) (tag_if (is_member p.auth.content.sender) p.membership_tag) whole.1 whole.3 in
    let frame = framed p.auth body.0 body.2 in
    let long = header_one whole.0 whole.2 in
    let all = ap length whole.4 in
    let part = ap length body.4 in (
      (0 ∷ 1 ∷ []) ++ body.0,
      join (frame_format p.auth.wire_format) (signed_frame p.auth) (0 ∷ 1 ∷ []) body.0 (frame_one p.auth.wire_format frame.0) frame.1,
      omega (arith, length-append whole.0 whole.1, length-append body.0 body.1, length-append (0 ∷ 1 ∷ []) body.0),
    )

pub reference_exists : ReferencesExist
reference_exists profile context p input =
    let a = authenticated p input.0 input.1.encoded in
    let bounded = input.1.bounded in
    let text = both_encoded (vector reference_label) (vector a.0) (vector_some reference_label (omega arith)) (vector_some a.0 (omega (arith, a.2))) in
    subst
    (λ (o : Option (List ℕ)). IsSome (option_and_then (λ (value : List ℕ). option_map (hash_of context.cipher_suite) (ref_hash_input reference_label value)) o))
    (sym a.1) (mapped (hash_of context.cipher_suite) (ref_hash_input reference_label a.0) text)

-- of a commit in the open: the commit itself, and its confirmation tag
tagged : (o : Option (List ℕ)) (x : List ℕ) → tag_if true o ≡ Some x → (tag : List ℕ) × (o ≡ Some tag) × IsSome (vector tag)
unfolding tag_if
tagged None x e = absurd (none-some x e)
tagged (Some tag) x e = (tag, refl, there (vector tag) x e)

content_of : (f : FramedContent) (x : List ℕ) → framed_content f ≡ Some x → IsSome (content f.content)
unfolding framed_content
content_of f x e =
    let a = joined (vector f.group_id) (number w64 f.epoch ⊕ sender f.sender ⊕ vector f.authenticated ⊕ content f.content) x e in
    let b = joined (number w64 f.epoch) (sender f.sender ⊕ vector f.authenticated ⊕ content f.content) a.1 a.3 in
    let c = joined (sender f.sender) (vector f.authenticated ⊕ content f.content) b.1 b.3 in
    let d = joined (vector f.authenticated) (content f.content) c.1 c.3 in
    there (content f.content) d.1 d.3

proposal_of : (q : Proposal) → IsSome (content (contents.Proposal q)) → IsSome (proposal q)
unfolding content
proposal_of q h = let s = encoding_of (number w8 2 ⊕ proposal q) h in let p = joined (number w8 2) (proposal q) s.0 s.1 in there (proposal q) p.1 p.3

commit_of : (c : Commit) → IsSome (content (contents.Commit c)) → IsSome (commit c)
unfolding content
commit_of c h = let s = encoding_of (number w8 3 ⊕ commit c) h in let p = joined (number w8 3) (commit c) s.0 s.1 in there (commit c) p.1 p.3

content_parts : (p : PublicParts) (bytes : List ℕ) → message (messages.Public p) ≡ Some bytes → IsSome (content p.auth.content.content)
unfolding message public_message signed_frame frame_auth
content_parts p bytes e =
    let whole = joined (header 1) (public_message p) bytes e in
    let body = joined (public_frame p.auth) (tag_if (is_member p.auth.content.sender) p.membership_tag) whole.1 whole.3 in
    let frame = framed p.auth body.0 body.2 in
    let parts = joined (framed_content p.auth.content) (frame_auth (is_commit p.auth.content.content) (p.auth.signature, p.auth.confirmation_tag)) body.0 frame.1 in
    content_of p.auth.content parts.0 parts.2

-- of a proposal in the open: the proposal itself
pub proposal_encoded : (p : PublicParts) (q : Proposal) → IsSome (message (messages.Public p)) → p.auth.content.content ≡ contents.Proposal q → IsSome (proposal q)
proposal_encoded p q is_there is =
    let s = encoding_of (message (messages.Public p)) is_there in
    proposal_of q (subst (λ (d : Content). IsSome (content d)) is (content_parts p s.0 s.1))

commit_parts : (p : PublicParts) (c : Commit) (bytes : List ℕ) → message (messages.Public p) ≡ Some bytes → p.auth.content.content ≡ contents.Commit c
    → IsSome (commit c) × ((tag : List ℕ) × (p.auth.confirmation_tag ≡ Some tag) × IsSome (vector tag))
unfolding message public_message signed_frame frame_auth
commit_parts p c bytes e is =
    let whole = joined (header 1) (public_message p) bytes e in
    let body = joined (public_frame p.auth) (tag_if (is_member p.auth.content.sender) p.membership_tag) whole.1 whole.3 in
    let frame = framed p.auth body.0 body.2 in
    let parts = joined (framed_content p.auth.content) (frame_auth (is_commit p.auth.content.content) (p.auth.signature, p.auth.confirmation_tag)) body.0 frame.1 in
    let signed = joined (vector p.auth.signature) (tag_if (is_commit p.auth.content.content) p.auth.confirmation_tag) parts.1 parts.3 in (
      commit_of c (subst (λ (d : Content). IsSome (content d)) is (content_of p.auth.content parts.0 parts.2)),
      tagged p.auth.confirmation_tag signed.1 (ap (λ (d : Content). tag_if (is_commit d) p.auth.confirmation_tag) (sym is) ∙ signed.3),
    )

module _ (p : PublicParts) (c : Commit) (is_there : IsSome (message (messages.Public p))) (is : p.auth.content.content ≡ contents.Commit c) where
  pub commit_encoded : IsSome (commit c)
  commit_encoded = let s = encoding_of (message (messages.Public p)) is_there in (commit_parts p c s.0 s.1 is).0

  pub commit_tag : (tag : List ℕ) × (p.auth.confirmation_tag ≡ Some tag) × IsSome (vector tag)
  commit_tag = let s = encoding_of (message (messages.Public p)) is_there in (commit_parts p c s.0 s.1 is).1
