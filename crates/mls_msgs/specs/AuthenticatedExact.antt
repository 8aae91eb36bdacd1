-- What is read as an AuthenticatedContent or a PublicMessage is encoded so, and what is encoded so is read. Internal:
-- no public contract uses this.
use Rattle.std.proofs.Common.{◌≡◌, ℕ, List, Bool, true, false, Option, Some, None, refl, sym, ◌∙◌}
use Rattle.std.specs.Int.{w16}
use Rattle.std.proofs.lemmas.Bool.{eqb-true, eq-eqb}
use Rattle.mls_wire.specs.Input.{Input}
use Rattle.mls_wire.specs.Encoding.{number, vector}
use Rattle.mls_wire.specs.Parsing.{number_at, vector_at}
use Rattle.mls_wire.specs.ExactParsers.{Exact, IsExact, IsLong, Any, field_then, made_of, known}
use Rattle.mls_wire.specs.OptionBind.{allowed}
use Rattle.mls_wire.specs.IntegersExact.{wide16, number_exact, number_long}
use Rattle.mls_wire.specs.VectorsExact.{vector_exact}
use Rattle.mls_wire.specs.EncodingConcat.{long_left}
use Rattle.mls_nodes.specs.NodesExact.{tested_exact}
use Rattle.mls_msgs.specs.Layout.{is_commit, is_member, framed_content}
use Rattle.mls_msgs.specs.Parsing.{framed_content_at}
use Rattle.mls_msgs.specs.FrameExact.{framed_content_exact, framed_content_long}
use Rattle.mls_msgs.specs.Authenticated.{is_frame_format, frame_format, tag_fits, tag_if, frame_auth, signed_frame, authenticated_content}
use Rattle.mls_msgs.specs.PublicMessage.{public_frame, public_message}
use Rattle.mls_msgs.specs.FrameParsing.{frame_format_at, tag_if_at, frame_auth_at, signed_frame_at, authenticated_content_at, public_message_at}
use Rattle.mls_msgs.specs.declared.authenticated.AuthenticatedParts.{AuthenticatedParts}

-- ---- values that have no encoding

module _ {A : Type 0} (P : A → Type 0) (s t : A → Option (List ℕ)) (f : Input → Option (A × Input)) where
  -- Only values that satisfy P have an encoding.
  pub only : ((a : A) → P a → s a ≡ t a) → ((a : A) (front : List ℕ) → t a ≡ Some front → P a) → Exact P s f → IsExact t f
  only same holds exact = record {
    takes = λ i r j e.
        let a = exact.takes i r j e in
        (tt, (a.1.0, sym (same r a.0) ∙ a.1.1, a.1.2, a.1.3));
    again = λ r front rest offset p e.
        let b = holds r front e in
        exact.again r front rest offset b (same r b ∙ e);
  }

-- ---- wire formats and tags

pub frame_format_exact : IsExact frame_format frame_format_at
unfolding frame_format frame_format_at
frame_format_exact = tested_exact is_frame_format (number w16) (number_at w16) (number_exact w16 wide16)

pub frame_format_long : IsLong frame_format
unfolding frame_format
frame_format_long n front h = number_long w16 wide16 n front (allowed (is_frame_format n) (number w16 n) front h).1

-- A tag that has an encoding fits.
tag_encoded : (needed : Bool) (o : Option (List ℕ)) (front : List ℕ) → tag_if needed o ≡ Some front → tag_fits needed o ≡ true
unfolding tag_if
tag_encoded true (Some t) front e = refl
tag_encoded true None front e = absurd cc
tag_encoded false (Some t) front e = absurd cc
tag_encoded false None front e = refl

needed_tag : (o : Option (List ℕ)) → tag_fits true o ≡ true → (t : List ℕ) × (◌≡◌ {A = Option (List ℕ)} (Some t) o)
needed_tag (Some t) p = (t, refl)
needed_tag None p = absurd cc

unneeded_tag : (o : Option (List ℕ)) → tag_fits false o ≡ true → ◌≡◌ {A = Option (List ℕ)} None o
unneeded_tag (Some t) p = absurd cc
unneeded_tag None p = refl

pub tag_if_exact : (needed : Bool) → IsExact (tag_if needed) (tag_if_at needed)
unfolding tag_if tag_if_at
tag_if_exact true = only (λ o. tag_fits true o ≡ true) (tag_if true) (tag_if true) (tag_if_at true) (λ o p. refl) (tag_encoded true)
    (made_of (λ o. tag_fits true o ≡ true) Some vector (tag_if true) vector_at vector_exact (λ t. refl) (λ t. refl) needed_tag)
tag_if_exact false = only (λ o. tag_fits false o ≡ true) (tag_if false) (tag_if false) (tag_if_at false) (λ o p. refl) (tag_encoded false)
    (known (λ o. tag_fits false o ≡ true) (tag_if false) None refl refl unneeded_tag)

-- ---- AuthenticatedContent

pub frame_auth_exact : (c : Bool) → IsExact (frame_auth c) (frame_auth_at c)
unfolding frame_auth frame_auth_at
frame_auth_exact c =
    field_then Any (λ a. a.0) vector _ vector_at _ vector_exact
    (λ s. made_of _ (λ x. (s, x)) (tag_if c) _ (tag_if_at c) (tag_if_exact c)
    (λ x. (tt, refl)) (λ x. refl) (λ a p. (a.1, rw (← p.1) refl)))

pub signed_frame_exact : (w : ℕ) → Exact (λ a. Unit {0} × (a.wire_format ≡ w)) signed_frame (signed_frame_at w)
unfolding signed_frame signed_frame_at
signed_frame_exact w =
    field_then _ (λ a. a.content) framed_content _ framed_content_at _ framed_content_exact
    (λ c. made_of _ (λ x. record { wire_format = w; content = c; signature = x.0; confirmation_tag = x.1 }) (frame_auth (is_commit c.content)) _ (frame_auth_at (is_commit c.content)) (frame_auth_exact (is_commit c.content))
    (λ x. ((tt, refl), refl)) (λ x. refl)
    (λ a p. ((a.signature, a.confirmation_tag), rw (← p.0.1, ← p.1) refl)))

pub authenticated_content_exact : IsExact authenticated_content authenticated_content_at
unfolding authenticated_content authenticated_content_at
authenticated_content_exact =
    field_then Any (λ a. a.wire_format) frame_format signed_frame frame_format_at _ frame_format_exact (λ w. signed_frame_exact w)

pub authenticated_content_long : IsLong authenticated_content
unfolding authenticated_content
authenticated_content_long a front h = long_left (frame_format a.wire_format) _ front (frame_format_long a.wire_format) h

-- ---- public messages

is_open : (a : AuthenticatedParts) → Unit {0} × (a.wire_format ≡ 1) → signed_frame a ≡ public_frame a
unfolding public_frame
is_open a p = rw (eq-eqb a.wire_format 1 p.1) refl

encoded_open : (a : AuthenticatedParts) (front : List ℕ) → public_frame a ≡ Some front → Unit {0} × (a.wire_format ≡ 1)
unfolding public_frame
encoded_open a front e = (tt, eqb-true a.wire_format 1 (allowed _ (signed_frame a) front e).0)

pub public_frame_exact : IsExact public_frame (signed_frame_at 1)
public_frame_exact = only (λ a. Unit {0} × (a.wire_format ≡ 1)) signed_frame public_frame (signed_frame_at 1) is_open encoded_open (signed_frame_exact 1)

public_frame_long : IsLong public_frame
unfolding public_frame signed_frame
public_frame_long a front h = long_left (framed_content a.content) _ front (framed_content_long a.content) (allowed _ (signed_frame a) front h).1

pub public_message_exact : IsExact public_message public_message_at
unfolding public_message public_message_at
public_message_exact =
    field_then Any (λ p. p.auth) public_frame _ (signed_frame_at 1) _ public_frame_exact
    (λ a. made_of _ (λ x. record { auth = a; membership_tag = x }) (tag_if (is_member a.content.sender)) _ (tag_if_at (is_member a.content.sender)) (tag_if_exact (is_member a.content.sender))
    (λ x. (tt, refl)) (λ x. refl) (λ p q. (p.membership_tag, rw (← q.1) refl)))

pub public_message_long : IsLong public_message
unfolding public_message
public_message_long p front h = long_left (public_frame p.auth) _ front (public_frame_long p.auth) h
