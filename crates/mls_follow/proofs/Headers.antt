-- The header of a message, read from its first bytes.
use Rattle.std.proofs.Common.{◌≡◌, ◌≢◌, ◌∙◌, ◌<◌, ◌⊎◌, ℕ, ◌+◌, List, [], ◌++◌, length, Bool, true, false, Option, Some, None, refl, sym, ap, subst, inl, inr, append_assoc, arith}
use Rattle.std.specs.Prelude.{nat_eq, if◌then◌else◌}
use Rattle.std.proofs.lemmas.Bool.{eqb-true, or_cases, false≢true}
use Rattle.std.specs.Int.{w16}
use Rattle.mls_wire.specs.Input.{Input, at}
use Rattle.mls_wire.specs.Limits.{input_limit}
use Rattle.mls_wire.specs.Encoding.{◌⊕◌, number}
use Rattle.mls_wire.specs.EncodingConcat.{joined, join}
use Rattle.mls_wire.specs.ExactTheorems.{one_reading}
use Rattle.mls_wire.specs.IntegersExact.{wide16, number_exact}
use Rattle.mls_wire.specs.OptionBind.{some_is, allowed}
use Rattle.mls_wire.specs.Parsing.{number_at}
use Rattle.mls_wire.specs.ReadContracts.{IsEncodedAt, Nothing, ReadIsDeterministic}
use Rattle.mls_msgs.specs.Layout.{key_package, group_info}
use Rattle.mls_msgs.specs.Message.{header, is_unread, message}
use Rattle.mls_msgs.specs.MessageExact.{header_exact}
use Rattle.mls_msgs.specs.MessageParsing.{header_at}
use Rattle.mls_msgs.specs.Profile.{is_in}
use Rattle.mls_msgs.specs.PublicMessage.{public_message}
use Rattle.mls_msgs.specs.declared.message.Message.{Message}
use Rattle.mls_msgs.specs.declared.profile.Profile.{Profile}
use Rattle.mls_msgs.specs.declared.profile.Profile.TheVariants.{Members, Full}
use Rattle.mls_msgs.specs.declared.message.Message.TheVariants as messages
use Rattle.mls_nodes.specs.Requirements.{Requires}
use Rattle.mls_nodes.specs.declared.required_capabilities.RequiredCapabilities.{RequiredCapabilities}
use Rattle.mls_check.specs.Signatures.{VerifyFn}
use Rattle.mls_apply.specs.declared.refusal.Refusal.{Refusal}
use Rattle.mls_apply.specs.declared.refusal.Refusal.TheVariants.{Malformed, NotPublic, OutOfMemory}
use Rattle.mls_signatures.specs.declared.signature_to_verify.SignatureToVerify.{SignatureToVerify}
use Rattle.mls_follow.specs.State.{State, EncodesMessage}
use Rattle.mls_follow.specs.Acceptance.{EncodesNoMessage}
use Rattle.mls_follow.specs.TimedAcceptance.{FailsRuleAt, IsFirstRefusalAt}
use Rattle.mls_follow.specs.MessageSignatures.{AreFreshSignaturesOf, AreSignaturesOf}
use Rattle.mls_follow.specs.MessageHeader.{IsWireFormat, HasHeader, HasNoHeader, IsUnreadMessage}

-- bytes have the header of one wire format at most
header_found : (n : ℕ) (bytes : List ℕ) → HasHeader n bytes → (j : Input) × (header_at (at 0 bytes) ≡ Some (n, j))
header_found n bytes h =
    let p = joined (header n) (Some h.0) bytes h.1 in
    (at (0 + length p.0) p.1, ap (λ (t : List ℕ). header_at (at 0 t)) p.4 ∙ header_exact.again n p.0 p.1 0 tt p.2)

pub one_header : (m n : ℕ) (bytes : List ℕ) → HasHeader m bytes → HasHeader n bytes → m ≡ n
one_header m n bytes a b =
    let first = header_found m bytes a in
    let second = header_found n bytes b in
    ap (λ (z : ℕ × Input). z.0) (some_is (m, first.0) (n, second.0) (sym first.1 ∙ second.1))

-- two numbers, one behind the other
one_number : ReadIsDeterministic (number w16)
one_number = one_reading (number w16) (number_at w16) (number_exact w16 wide16)

pub header_read : (n : ℕ) (bytes : List ℕ) (i j : Input) → IsEncodedAt (number w16) 1 (at 0 bytes) i → IsEncodedAt (number w16) n i j → HasHeader n bytes
unfolding header
header_read n bytes i j a b = (
  j.left,
  join (number w16 1 ⊕ number w16 n) (Some j.left) (a.0 ++ b.0) j.left (join (number w16 1) (number w16 n) a.0 b.0 a.1 b.1) refl
      ∙ ap (λ (t : List ℕ). Some t) (append_assoc a.0 b.0 j.left ∙ sym (a.2 ∙ ap (λ (t : List ℕ). a.0 ++ t) b.2)),
)

numbers_of : (n : ℕ) (bytes : List ℕ) → HasHeader n bytes → (i j : Input) × IsEncodedAt (number w16) 1 (at 0 bytes) i × IsEncodedAt (number w16) n i j
unfolding header
numbers_of n bytes h =
    let p = joined (header n) (Some h.0) bytes h.1 in
    let q = joined (number w16 1) (number w16 n) p.0 p.2 in (
      at (0 + length q.0) (q.1 ++ p.1),
      at ((0 + length q.0) + length q.1) p.1,
      (q.0, q.2, p.4 ∙ ap (λ (t : List ℕ). t ++ p.1) q.4 ∙ append_assoc q.0 q.1 p.1, refl),
      (q.1, q.3, refl, refl),
    )

-- bytes without a header
pub no_version : (bytes : List ℕ) → Nothing (number w16) (at 0 bytes) → HasNoHeader bytes
no_version bytes none n known h =
    let t = numbers_of n bytes h in
    none 1 t.2.0 t.0.left t.2.1 t.2.2

pub other_version : (version : ℕ) (bytes : List ℕ) (i : Input) → IsEncodedAt (number w16) version (at 0 bytes) i → version ≢ 1 → HasNoHeader bytes
other_version version bytes i a other n known h =
    let t = numbers_of n bytes h in
    other (one_number version 1 (at 0 bytes) i t.0 a t.2).0

module _ (bytes : List ℕ) (i : Input) (first : IsEncodedAt (number w16) 1 (at 0 bytes) i) where
  behind_first : (n : ℕ) → HasHeader n bytes → (j : Input) × IsEncodedAt (number w16) n i j
  behind_first n h =
      let t = numbers_of n bytes h in
      (t.1, subst (λ (k : Input). IsEncodedAt (number w16) n k t.1) (one_number 1 1 (at 0 bytes) t.0 i t.2 first).1 t.3)

  pub no_format : Nothing (number w16) i → HasNoHeader bytes
  no_format none n known h =
      let t = behind_first n h in
      none n t.1.0 t.0.left t.1.1 t.1.2

  pub other_format : (m : ℕ) (j : Input) → IsEncodedAt (number w16) m i j → (IsWireFormat m → ⊥) → HasNoHeader bytes
  other_format m j second other n known h =
      let t = behind_first n h in
      other (subst IsWireFormat (one_number n m i t.0 j t.1 second).0 known)

-- a message has the header of its wire format
has_header : (n : ℕ) (body : Option (List ℕ)) (bytes : List ℕ) → header n ⊕ body ≡ Some bytes → HasHeader n bytes
has_header n body bytes e =
    let p = joined (header n) body bytes e in
    (p.1, ap (λ (o : Option (List ℕ)). header n ⊕ o) (sym p.3) ∙ e)

unread_format : (n : ℕ) → is_unread n ≡ true → IsWireFormat n
unread_format n e = elim (or_cases (nat_eq n 2) (nat_eq n 3) e) [
  | inl two ↦ let is : n ≡ 2 = eqb-true n 2 two in (omega (arith, is), omega (arith, is))
  | inr three ↦ let is : n ≡ 3 = eqb-true n 3 three in (omega (arith, is), omega (arith, is))
]

no_message_of : (bytes : List ℕ) → HasNoHeader bytes → (m : Message) → message m ≡ Some bytes → ⊥
unfolding message
no_message_of bytes none (messages.Public m) e = none 1 (omega arith, omega arith) (has_header 1 (public_message m) bytes e)
no_message_of bytes none (messages.Unread n body) e =
    let a = allowed (is_unread n) (header n ⊕ Some body) bytes e in
    none n (unread_format n a.0) (body, a.1)
no_message_of bytes none (messages.GroupInfo g) e = none 4 (omega arith, omega arith) (has_header 4 (group_info g) bytes e)
no_message_of bytes none (messages.KeyPackage k) e = none 5 (omega arith, omega arith) (has_header 5 (key_package k) bytes e)

pub no_message : (profile : Profile) (bytes : List ℕ) → HasNoHeader bytes → EncodesNoMessage profile bytes
no_message profile bytes none m is = no_message_of bytes none m is.encoded

-- nor do more bytes than an input has encode a message
pub over_limit : (profile : Profile) (bytes : List ℕ) → input_limit < length bytes → EncodesNoMessage profile bytes
over_limit profile bytes over m is = omega (arith, over, is.bounded)

-- each profile has what holds of the members'
always_in : (profile : Profile) → is_in profile true ≡ true
always_in Members = refl
always_in Full = refl

-- an unread message is the encoding of its body
pub encodes_unread : (profile : Profile) (bytes : List ℕ) (u : IsUnreadMessage bytes) → EncodesMessage profile (messages.Unread u.wire_format u.header.0) bytes
unfolding message
encodes_unread profile bytes u = record {
  encoded = ap (λ (b : Bool). if b then header u.wire_format ⊕ Some u.header.0 else None) u.unread ∙ u.header.1;
  allowed = always_in profile;
  bounded = u.bounded;
}

no_signatures : {X : Type 0} {list : List X} (b : Bool) → list ≡ [] → list ≡ (if b then [] else [])
no_signatures true e = e
no_signatures false e = e

-- and has no signatures
has_no_signatures : (s : State) (bytes : List ℕ) (list : List SignatureToVerify) → list ≡ [] → IsUnreadMessage bytes → AreSignaturesOf s bytes list
has_no_signatures s bytes list empty u = record { message = messages.Unread u.wire_format u.header.0; encoded = encodes_unread s.profile bytes u; same = no_signatures s.ended empty }

has_no_fresh : (s : State) (bytes : List ℕ) (list : List SignatureToVerify) → list ≡ [] → IsUnreadMessage bytes → AreFreshSignaturesOf s bytes list
has_no_fresh s bytes list empty u = record { message = messages.Unread u.wire_format u.header.0; encoded = encodes_unread s.profile bytes u; same = no_signatures s.ended empty }

-- what is refused as not public is unread
is_unread_message : (profile : Profile) (bytes : List ℕ)
    → (NotPublic ≢ OutOfMemory → ((NotPublic ≡ Malformed) × EncodesNoMessage profile bytes) ⊎ ((NotPublic ≡ NotPublic) × IsUnreadMessage bytes)) → IsUnreadMessage bytes
is_unread_message profile bytes h = elim (h (λ e. absurd cc)) [
  | inl a ↦ let bad = a.0 in absurd cc
  | inr a ↦ a.1
]

module _ (s : State) (bytes : List ℕ) (list : List SignatureToVerify) (empty : list ≡ [])
    (h : NotPublic ≢ OutOfMemory → ((NotPublic ≡ Malformed) × EncodesNoMessage s.profile bytes) ⊎ ((NotPublic ≡ NotPublic) × IsUnreadMessage bytes)) where
  pub none_listed : AreSignaturesOf s bytes list
  none_listed = has_no_signatures s bytes list empty (is_unread_message s.profile bytes h)

  pub none_fresh : AreFreshSignaturesOf s bytes list
  none_fresh = has_no_fresh s bytes list empty (is_unread_message s.profile bytes h)

-- it is the first rule that a PrivateMessage and a Welcome fail
module _ (now : Option ℕ) (G : VerifyFn) (s : State) (required : RequiredCapabilities) (requires : Requires s.context required) (bytes : List ℕ) where
  not_public : IsUnreadMessage bytes → FailsRuleAt now G s bytes NotPublic
  not_public u = record { message = messages.Unread u.wire_format u.header.0; encoded = encodes_unread s.profile bytes u; required = required; requires = requires; fails = refl }

  pub header_refused : (e : Refusal)
      → (e ≢ OutOfMemory → ((e ≡ Malformed) × EncodesNoMessage s.profile bytes) ⊎ ((e ≡ NotPublic) × IsUnreadMessage bytes))
      → e ≢ OutOfMemory → IsFirstRefusalAt now G s bytes e
  header_refused e h own = elim (h own) [
    | inl malformed ↦ inl malformed
    | inr unread ↦ inr (subst (FailsRuleAt now G s bytes) (sym unread.0) (not_public unread.1))
  ]

-- what the wire format that was read says
pub unread_has_header : (bytes : List ℕ) → HasNoHeader bytes → IsUnreadMessage bytes → ⊥
unread_has_header bytes none u = none u.wire_format (unread_format u.wire_format u.unread) u.header

pub other_is_read : (n : ℕ) (bytes : List ℕ) → HasHeader n bytes → is_unread n ≡ false → IsUnreadMessage bytes → ⊥
other_is_read n bytes h read u = false≢true (sym read ∙ (ap is_unread (one_header n u.wire_format bytes h u.header) ∙ u.unread))

pub over_is_unread : (bytes : List ℕ) → input_limit < length bytes → IsUnreadMessage bytes → ⊥
over_is_unread bytes over u = omega (arith, over, u.bounded)
