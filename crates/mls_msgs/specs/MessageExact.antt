-- What is read as a GroupInfo or a message is encoded so, and what is encoded so is read. Internal: no public contract
-- uses this.
use Rattle.std.proofs.Common.{◌≡◌, ◌≤◌, ◌⊎◌, inl, inr, ℕ, ◌+◌, List, [], ◌++◌, length, Bool, true, false, cond, ◌||◌, Option, Some, None, Result, Ok, Err, refl, sym, ap, subst, ◌∙◌}
use Rattle.std.specs.Int.{w16, w32}
use Rattle.std.specs.Prelude.{nat_eq}
use Rattle.std.proofs.lemmas.Bool.{eqb-true, eqb-false}
use Rattle.std.proofs.lemmas.List.{append-nil, nil_from_length}
use Rattle.mls_wire.specs.declared.fault.CodecFault.{CodecFault}
use Rattle.mls_wire.specs.declared.fault.CodecFault.TheVariants as faults
use Rattle.mls_wire.specs.Input.{Input, at}
use Rattle.mls_wire.specs.Limits.{input_limit}
use Rattle.mls_wire.specs.Encoding.{◌⊕◌, number, vector, list}
use Rattle.mls_wire.specs.Parsing.{◌>>=◌, number_at, vector_at, list_at}
use Rattle.mls_wire.specs.ParsingInternal.{Finds}
use Rattle.mls_wire.specs.ExactParsers.{Exact, IsExact, IsLong, Any, field_then, made_of, chosen, never}
use Rattle.mls_wire.specs.EncodingConcat.{joined, join, long_left}
use Rattle.mls_wire.specs.OptionBind.{bind_some, some_is, allowed, chosen_parts}
use Rattle.mls_wire.specs.IntegersExact.{wide16, wide32, number_exact}
use Rattle.mls_wire.specs.VectorsExact.{vector_exact}
use Rattle.mls_wire.specs.WriteSequences.{none_second}
use Rattle.mls_nodes.specs.Extension.{extension}
use Rattle.mls_nodes.specs.Layout.{group_context}
use Rattle.mls_nodes.specs.ParsingInternal.{group_context_at}
use Rattle.mls_nodes.specs.LeafParsing.{extension_at}
use Rattle.mls_nodes.specs.NodesExact.{extensions_exact, group_context_exact, group_context_long}
use Rattle.mls_wire.specs.ReadContracts.{DecodesInput}
use Rattle.mls_msgs.specs.Layout.{key_package, group_info}
use Rattle.mls_msgs.specs.Parsing.{key_package_at, group_info_at}
use Rattle.mls_msgs.specs.ProposalExact.{key_package_exact}
use Rattle.mls_msgs.specs.PublicMessage.{public_message}
use Rattle.mls_msgs.specs.FrameParsing.{public_message_at}
use Rattle.mls_msgs.specs.AuthenticatedExact.{public_message_exact}
use Rattle.mls_msgs.specs.Message.{header, is_unread, message}
use Rattle.mls_msgs.specs.MessageParsing.{header_at, rest_at, message_body_at, message_at}
use Rattle.mls_msgs.specs.declared.message.Message.{Message}
use Rattle.mls_msgs.specs.declared.message.Message.TheVariants as messages

pub group_info_exact : IsExact group_info group_info_at
unfolding group_info group_info_at
group_info_exact =
    field_then Any (λ g. g.context) group_context _ group_context_at _ group_context_exact
    (λ a. field_then _ (λ g. g.extensions) (list extension) _ (list_at extension_at) _ extensions_exact
    (λ b. field_then _ (λ g. g.confirmation_tag) vector _ vector_at _ vector_exact
    (λ c. field_then _ (λ g. g.signer) (number w32) _ (number_at w32) _ (number_exact w32 wide32)
    (λ d. made_of _ (λ x. record { context = a; extensions = b; confirmation_tag = c; signer = d; signature = x }) vector _ vector_at vector_exact
    (λ x. ((((tt, refl), refl), refl), refl)) (λ x. refl)
    (λ g p. (g.signature, rw (← p.0.0.0.1, ← p.0.0.1, ← p.0.1, ← p.1) refl))))))

pub group_info_long : IsLong group_info
unfolding group_info
group_info_long g front h = long_left (group_context g.context) _ front (group_context_long g.context) h

-- ---- the header

-- For values that all satisfy P.
holding : {A : Type 0} (P : A → Type 0) (s : A → Option (List ℕ)) (f : Input → Option (A × Input)) → ((a : A) → P a) → IsExact s f → Exact P s f
holding P s f holds exact = record {
  takes = λ i r j e. (holds r, (exact.takes i r j e).1);
  again = λ r front rest offset p e. exact.again r front rest offset tt e;
}

behind_version : (version : ℕ) → Exact (λ (n : ℕ). Unit {0} × (1 ≡ version)) (number w16) (λ j. cond (nat_eq version 1) (number_at w16 j) None)
behind_version version =
    chosen _ (number w16) (number_at w16) (λ j. None) (nat_eq version 1)
    (λ e. holding _ (number w16) (number_at w16) (λ n. (tt, sym (eqb-true version 1 e))) (number_exact w16 wide16))
    (λ e. never _ (number w16) (λ n p. eqb-false version 1 e (sym p.1)))

pub header_exact : IsExact header header_at
unfolding header header_at
header_exact = field_then Any (λ n. 1) (number w16) (number w16) (number_at w16) _ (number_exact w16 wide16) behind_version

-- ---- the value that is all of what is left

module _ {A : Type 0} (s : A → Option (List ℕ)) (f : Input → Option (A × Input)) (exact : IsExact s f) where
  rest_takes : (i : Input) (x : A) → rest_at f i ≡ Some x → s x ≡ Some i.left
  rest_takes i x e =
      let a = bind_some (f i) (λ y. cond (nat_eq (length y.1.left) 0) (Some y.0) None) x e in
      let b = allowed (nat_eq (length a.0.1.left) 0) (Some a.0.0) x a.2 in
      let none : a.0.1.left ≡ [] = nil_from_length a.0.1.left (eqb-true _ _ b.0) in
      let t = (exact.takes i a.0.0 a.0.1 a.1).1 in
      let all : i.left ≡ t.0 = t.2 ∙ ap (λ (r : List ℕ). t.0 ++ r) none ∙ append-nil t.0 in
      ap s (sym (some_is a.0.0 x b.1)) ∙ t.1 ∙ ap (λ (r : List ℕ). Some r) (sym all)

  rest_again : (x : A) (text : List ℕ) (offset : ℕ) → s x ≡ Some text → rest_at f (at offset text) ≡ Some x
  rest_again x text offset e =
      let a = exact.again x text [] offset tt e in
      let b : f (at offset text) ≡ Some (x, at (offset + length text) []) = ap (λ (r : List ℕ). f (at offset r)) (sym (append-nil text)) ∙ a in
      rw b refl

-- ---- messages

-- The wire format of a message.
abbrev format_of : Message → ℕ
format_of (messages.Public m) = 1
format_of (messages.Unread wire_format body) = wire_format
format_of (messages.GroupInfo g) = 4
format_of (messages.KeyPackage k) = 5

-- What follows the wire format.
abbrev message_body : Message → Option (List ℕ)
message_body (messages.Public m) = public_message m
message_body (messages.Unread wire_format body) = cond (is_unread wire_format) (Some body) None
message_body (messages.GroupInfo g) = group_info g
message_body (messages.KeyPackage k) = key_package k

kept : (b : Bool) (a : Option (List ℕ)) (body : List ℕ) → a ⊕ cond b (Some body) None ≡ cond b (a ⊕ Some body) None
kept true a body = refl
kept false a body = none_second a None refl

message_parts : (m : Message) → header (format_of m) ⊕ message_body m ≡ message m
unfolding message
message_parts (messages.Public m) = refl
message_parts (messages.Unread wire_format body) = kept (is_unread wire_format) (header wire_format) body
message_parts (messages.GroupInfo g) = refl
message_parts (messages.KeyPackage k) = refl

-- A message of this wire format whose body is all of the rest.
abbrev IsBody : ℕ → Input → Message → Type 0
IsBody n i m = (format_of m ≡ n) × (message_body m ≡ Some i.left)

message_body_takes : (n : ℕ) (i : Input) (x : Message) → message_body_at n i ≡ Some x → IsBody n i x
unfolding message_body_at
message_body_takes n i x e =
    elim (chosen_parts (nat_eq n 1) _ _ x e) [
      | inl a ↦
          let b = bind_some (rest_at public_message_at i) (λ m. Some (messages.Public m)) x a.1 in
          subst (IsBody n i) (some_is (messages.Public b.0) x b.2) (sym (eqb-true n 1 a.0), rest_takes public_message public_message_at public_message_exact i b.0 b.1)
      | inr a ↦ elim (chosen_parts (is_unread n) _ _ x a.1) [
        | inl b ↦ subst (IsBody n i) (some_is (messages.Unread n i.left) x b.1) (refl, rw b.0 refl)
        | inr b ↦ elim (chosen_parts (nat_eq n 4) _ _ x b.1) [
          | inl c ↦
              let d = bind_some (rest_at group_info_at i) (λ g. Some (messages.GroupInfo g)) x c.1 in
              subst (IsBody n i) (some_is (messages.GroupInfo d.0) x d.2) (sym (eqb-true n 4 c.0), rest_takes group_info group_info_at group_info_exact i d.0 d.1)
          | inr c ↦
              let d = allowed (nat_eq n 5) (rest_at key_package_at i >>= λ k. Some (messages.KeyPackage k)) x c.1 in
              let f = bind_some (rest_at key_package_at i) (λ k. Some (messages.KeyPackage k)) x d.1 in
              subst (IsBody n i) (some_is (messages.KeyPackage f.0) x f.2) (sym (eqb-true n 5 d.0), rest_takes key_package key_package_at key_package_exact i f.0 f.1)
        ]
      ]
    ]

either_holds : (a b : Bool) → a || b ≡ true → (a ≡ true) ⊎ (b ≡ true)
either_holds true b e = inl refl
either_holds false b e = inr e

pub unread_again : (n : ℕ) (i : Input) → is_unread n ≡ true → message_body_at n i ≡ Some (messages.Unread n i.left)
unfolding message_body_at
unread_again n i e = elim (either_holds (nat_eq n 2) (nat_eq n 3) e) [
  | inl two ↦ let is : n ≡ 2 = eqb-true n 2 two in rw is refl
  | inr three ↦ let is : n ≡ 3 = eqb-true n 3 three in rw is refl
]

message_body_again : (x : Message) (text : List ℕ) (offset : ℕ) → message_body x ≡ Some text → message_body_at (format_of x) (at offset text) ≡ Some x
unfolding message_body_at
message_body_again (messages.Public m) text offset e = let a = rest_again public_message public_message_at public_message_exact m text offset e in rw a refl
message_body_again (messages.Unread n body) text offset e =
    let a = allowed (is_unread n) (Some body) text e in
    unread_again n (at offset text) a.0 ∙ ap (λ (b : List ℕ). Some (messages.Unread n b)) (sym (some_is body text a.1))
message_body_again (messages.GroupInfo g) text offset e = let a = rest_again group_info group_info_at group_info_exact g text offset e in rw a refl
message_body_again (messages.KeyPackage k) text offset e = let a = rest_again key_package key_package_at key_package_exact k text offset e in rw a refl

pub message_takes : (bytes : List ℕ) (x : Message) → message_at bytes ≡ Some x → message x ≡ Some bytes
unfolding message_at
message_takes bytes x e =
    let h = bind_some (header_at (at 0 bytes)) (λ n. message_body_at n.0 n.1) x e in
    let t = (header_exact.takes (at 0 bytes) h.0.0 h.0.1 h.1).1 in
    let b = message_body_takes h.0.0 h.0.1 x h.2 in
    sym (message_parts x) ∙ (join _ _ t.0 h.0.1.left (ap header b.0 ∙ t.1) b.1 ∙ ap (λ (s : List ℕ). Some s) (sym t.2))

pub message_again : (x : Message) (bytes : List ℕ) → message x ≡ Some bytes → message_at bytes ≡ Some x
unfolding message_at
message_again x bytes e =
    let p = joined (header (format_of x)) (message_body x) bytes (message_parts x ∙ e) in
    let h = header_exact.again (format_of x) p.0 p.1 0 tt p.2 in
    let b = message_body_again x p.1 (0 + length p.0) p.3 in
    ap message_at p.4 ∙ rw (h, b) refl

-- What is decoded from an input within the limit.
pub message_decoded : (bytes : List ℕ) (r : Result Message CodecFault) → length bytes ≤ input_limit → Finds (message_at bytes) r → DecodesInput message bytes r
message_decoded bytes (Ok x) le h = (message_takes bytes x h, le)
message_decoded bytes (Err (faults.Wire f)) le h = λ x e _. let bad = sym h ∙ message_again x bytes e in absurd cc
message_decoded bytes (Err faults.OutOfMemory) le h = le
