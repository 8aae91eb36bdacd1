-- What is read as a PrivateMessage is encoded so, and what is encoded so is read. Internal: no public contract uses this.
use Rattle.std.proofs.Common.{◌≡◌, ◌≢◌, ℕ, List, [], Option, Some, refl, sym, arith}
use Rattle.std.specs.Int.{w8, w64}
use Rattle.mls_wire.specs.Encoding.{◌⊕◌, number, vector}
use Rattle.mls_wire.specs.Parsing.{number_at, vector_at}
use Rattle.mls_wire.specs.ExactParsers.{IsExact, Any, field_then, made_of, tag_is, known, never, encoded_as}
use Rattle.mls_wire.specs.IntegersExact.{wide8, wide64, number_exact}
use Rattle.mls_wire.specs.VectorsExact.{vector_exact}
use Rattle.mls_msgs.specs.PrivateMessage.{content_type, private_message}
use Rattle.mls_msgs.specs.PrivateMessageParsing.{content_type_at, private_message_at}
use Rattle.mls_msgs.specs.declared.private_message.PrivateContent.{PrivateContent}
use Rattle.mls_msgs.specs.declared.private_message.PrivateContent.TheVariants.{Application, Proposal, Commit}

-- ---- content types

-- The number of a content type.
abbrev content_number : PrivateContent → ℕ
content_number Application = 1
content_number Proposal = 2
content_number Commit = 3

-- What follows the number.
abbrev nothing_more : PrivateContent → Option (List ℕ)
nothing_more c = Some []

content_parts : (c : PrivateContent) → number w8 (content_number c) ⊕ nothing_more c ≡ content_type c
unfolding content_type number ◌⊕◌
content_parts Application = refl
content_parts Proposal = refl
content_parts Commit = refl

is_application_by_number : (c : PrivateContent) → Unit {0} × (content_number c ≡ 1) → Application ≡ c
is_application_by_number Application p = refl
is_application_by_number Proposal p = absurd (omega arith)
is_application_by_number Commit p = absurd (omega arith)

is_proposal_by_number : (c : PrivateContent) → Unit {0} × (content_number c ≡ 2) → Proposal ≡ c
is_proposal_by_number Application p = absurd (omega arith)
is_proposal_by_number Proposal p = refl
is_proposal_by_number Commit p = absurd (omega arith)

is_commit_by_number : (c : PrivateContent) → Unit {0} × (content_number c ≡ 3) → Commit ≡ c
is_commit_by_number Application p = absurd (omega arith)
is_commit_by_number Proposal p = absurd (omega arith)
is_commit_by_number Commit p = refl

no_content : (n : ℕ) → n ≢ 1 → n ≢ 2 → n ≢ 3 → (c : PrivateContent) → Unit {0} × (content_number c ≡ n) → ⊥
no_content n x y z Application p = x (sym p.1)
no_content n x y z Proposal p = y (sym p.1)
no_content n x y z Commit p = z (sym p.1)

pub content_type_exact : IsExact content_type content_type_at
unfolding content_type_at
content_type_exact = encoded_as Any content_type _ content_type_at content_parts
    (field_then Any content_number (number w8) nothing_more (number_at w8) _ (number_exact w8 wide8)
    (λ n. tag_is content_number _ _ _ n 1 (known _ _ Application (tt, refl) refl is_application_by_number)
    (λ x. tag_is content_number _ _ _ n 2 (known _ _ Proposal (tt, refl) refl is_proposal_by_number)
    (λ y. tag_is content_number _ _ _ n 3 (known _ _ Commit (tt, refl) refl is_commit_by_number)
    (λ z. never _ _ (no_content n x y z))))))

-- ---- messages

pub private_message_exact : IsExact private_message private_message_at
unfolding private_message private_message_at
private_message_exact =
    field_then Any (λ m. m.group_id) vector _ vector_at _ vector_exact
    (λ a. field_then _ (λ m. m.epoch) (number w64) _ (number_at w64) _ (number_exact w64 wide64)
    (λ b. field_then _ (λ m. m.content_type) content_type _ content_type_at _ content_type_exact
    (λ c. field_then _ (λ m. m.authenticated_data) vector _ vector_at _ vector_exact
    (λ d. field_then _ (λ m. m.encrypted_sender_data) vector _ vector_at _ vector_exact
    (λ e. made_of _ (λ x. record { group_id = a; epoch = b; content_type = c; authenticated_data = d; encrypted_sender_data = e; ciphertext = x }) vector _ vector_at vector_exact
    (λ x. (((((tt, refl), refl), refl), refl), refl)) (λ x. refl)
    (λ m p. (m.ciphertext, rw (← p.0.0.0.0.1, ← p.0.0.0.1, ← p.0.0.1, ← p.0.1, ← p.1) refl)))))))
