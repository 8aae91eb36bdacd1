-- What is read as a FramedContent or a part of one is encoded so, and what is encoded so is read. Internal: no public
-- contract uses this.
use Rattle.std.proofs.Common.{◌≡◌, ◌≢◌, ℕ, List, [], Option, Some, refl, sym, arith}
use Rattle.std.specs.Int.{w8, w32, w64}
use Rattle.mls_wire.specs.Encoding.{◌⊕◌, number, vector}
use Rattle.mls_wire.specs.Parsing.{number_at, vector_at}
use Rattle.mls_wire.specs.ExactParsers.{IsExact, IsLong, Any, field_then, made_of, tag_is, known, never, encoded_as}
use Rattle.mls_wire.specs.IntegersExact.{wide8, wide32, wide64, number_exact, number_long}
use Rattle.mls_wire.specs.VectorsExact.{vector_exact, vector_long}
use Rattle.mls_wire.specs.EncodingConcat.{long_left}
use Rattle.mls_msgs.specs.Layout.{proposal, commit, sender, content, framed_content}
use Rattle.mls_msgs.specs.Parsing.{proposal_at, commit_at, sender_at, content_at, framed_content_at}
use Rattle.mls_msgs.specs.ProposalExact.{proposal_exact}
use Rattle.mls_msgs.specs.CommitExact.{commit_exact}
use Rattle.mls_msgs.specs.declared.proposal.Proposal.{Proposal}
use Rattle.mls_msgs.specs.declared.commit.Commit.{Commit}
use Rattle.mls_msgs.specs.declared.framed_content.Sender.{Sender}
use Rattle.mls_msgs.specs.declared.framed_content.Sender.TheVariants.{Member, External, NewMemberProposal, NewMemberCommit}
use Rattle.mls_msgs.specs.declared.framed_content.Content.{Content}
use Rattle.mls_msgs.specs.declared.framed_content.Content.TheVariants as contents

-- ---- the types of a sender

-- The type of a sender.
abbrev sender_kind : Sender → ℕ
sender_kind (Member i) = 1
sender_kind (External i) = 2
sender_kind NewMemberProposal = 3
sender_kind NewMemberCommit = 4

-- What follows the type.
abbrev sender_body : Sender → Option (List ℕ)
sender_body (Member i) = number w32 i
sender_body (External i) = number w32 i
sender_body NewMemberProposal = Some []
sender_body NewMemberCommit = Some []

sender_parts : (s : Sender) → number w8 (sender_kind s) ⊕ sender_body s ≡ sender s
unfolding sender number ◌⊕◌
sender_parts (Member i) = refl
sender_parts (External i) = refl
sender_parts NewMemberProposal = refl
sender_parts NewMemberCommit = refl

is_member_by_kind : (s : Sender) → Unit {0} × (sender_kind s ≡ 1) → (x : ℕ) × (Member x ≡ s)
is_member_by_kind (Member x) p = (x, refl)
is_member_by_kind (External x) p = absurd (omega arith)
is_member_by_kind NewMemberProposal p = absurd (omega arith)
is_member_by_kind NewMemberCommit p = absurd (omega arith)

is_external_by_kind : (s : Sender) → Unit {0} × (sender_kind s ≡ 2) → (x : ℕ) × (External x ≡ s)
is_external_by_kind (Member x) p = absurd (omega arith)
is_external_by_kind (External x) p = (x, refl)
is_external_by_kind NewMemberProposal p = absurd (omega arith)
is_external_by_kind NewMemberCommit p = absurd (omega arith)

is_new_member_proposal_by_kind : (s : Sender) → Unit {0} × (sender_kind s ≡ 3) → NewMemberProposal ≡ s
is_new_member_proposal_by_kind (Member x) p = absurd (omega arith)
is_new_member_proposal_by_kind (External x) p = absurd (omega arith)
is_new_member_proposal_by_kind NewMemberProposal p = refl
is_new_member_proposal_by_kind NewMemberCommit p = absurd (omega arith)

is_new_member_commit_by_kind : (s : Sender) → Unit {0} × (sender_kind s ≡ 4) → NewMemberCommit ≡ s
is_new_member_commit_by_kind (Member x) p = absurd (omega arith)
is_new_member_commit_by_kind (External x) p = absurd (omega arith)
is_new_member_commit_by_kind NewMemberProposal p = absurd (omega arith)
is_new_member_commit_by_kind NewMemberCommit p = refl

no_sender : (n : ℕ) → n ≢ 1 → n ≢ 2 → n ≢ 3 → n ≢ 4 → (s : Sender) → Unit {0} × (sender_kind s ≡ n) → ⊥
no_sender n w x y z (Member _) p = w (sym p.1)
no_sender n w x y z (External _) p = x (sym p.1)
no_sender n w x y z NewMemberProposal p = y (sym p.1)
no_sender n w x y z NewMemberCommit p = z (sym p.1)

pub sender_exact : IsExact sender sender_at
unfolding sender_at
sender_exact = encoded_as Any sender _ sender_at sender_parts
    (field_then Any sender_kind (number w8) sender_body (number_at w8) _ (number_exact w8 wide8)
    (λ n. tag_is sender_kind _ _ _ n 1 (made_of _ Member (number w32) _ (number_at w32) (number_exact w32 wide32) (λ x. (tt, refl)) (λ x. refl) is_member_by_kind)
    (λ w. tag_is sender_kind _ _ _ n 2 (made_of _ External (number w32) _ (number_at w32) (number_exact w32 wide32) (λ x. (tt, refl)) (λ x. refl) is_external_by_kind)
    (λ x. tag_is sender_kind _ _ _ n 3 (known _ _ NewMemberProposal (tt, refl) refl is_new_member_proposal_by_kind)
    (λ y. tag_is sender_kind _ _ _ n 4 (known _ _ NewMemberCommit (tt, refl) refl is_new_member_commit_by_kind)
    (λ z. never _ _ (no_sender n w x y z)))))))

pub sender_long : IsLong sender
unfolding sender
sender_long (Member i) front h = long_left (number w8 1) _ front (number_long w8 wide8 1) h
sender_long (External i) front h = long_left (number w8 2) _ front (number_long w8 wide8 2) h
sender_long NewMemberProposal front h = number_long w8 wide8 3 front h
sender_long NewMemberCommit front h = number_long w8 wide8 4 front h

-- ---- the types of a content

-- The type of content.
abbrev content_kind : Content → ℕ
content_kind (contents.Application d) = 1
content_kind (contents.Proposal p) = 2
content_kind (contents.Commit c) = 3

-- What follows the type.
abbrev content_body : Content → Option (List ℕ)
content_body (contents.Application d) = vector d
content_body (contents.Proposal p) = proposal p
content_body (contents.Commit c) = commit c

content_parts : (c : Content) → number w8 (content_kind c) ⊕ content_body c ≡ content c
unfolding content
content_parts (contents.Application d) = refl
content_parts (contents.Proposal p) = refl
content_parts (contents.Commit c) = refl

is_application_by_kind : (c : Content) → Unit {0} × (content_kind c ≡ 1) → (x : List ℕ) × (contents.Application x ≡ c)
is_application_by_kind (contents.Application x) p = (x, refl)
is_application_by_kind (contents.Proposal x) p = absurd (omega arith)
is_application_by_kind (contents.Commit x) p = absurd (omega arith)

is_proposal_by_kind : (c : Content) → Unit {0} × (content_kind c ≡ 2) → (x : Proposal) × (contents.Proposal x ≡ c)
is_proposal_by_kind (contents.Application x) p = absurd (omega arith)
is_proposal_by_kind (contents.Proposal x) p = (x, refl)
is_proposal_by_kind (contents.Commit x) p = absurd (omega arith)

is_commit_by_kind : (c : Content) → Unit {0} × (content_kind c ≡ 3) → (x : Commit) × (contents.Commit x ≡ c)
is_commit_by_kind (contents.Application x) p = absurd (omega arith)
is_commit_by_kind (contents.Proposal x) p = absurd (omega arith)
is_commit_by_kind (contents.Commit x) p = (x, refl)

no_content : (n : ℕ) → n ≢ 1 → n ≢ 2 → n ≢ 3 → (c : Content) → Unit {0} × (content_kind c ≡ n) → ⊥
no_content n x y z (contents.Application _) p = x (sym p.1)
no_content n x y z (contents.Proposal _) p = y (sym p.1)
no_content n x y z (contents.Commit _) p = z (sym p.1)

pub content_exact : IsExact content content_at
unfolding content_at
content_exact = encoded_as Any content _ content_at content_parts
    (field_then Any content_kind (number w8) content_body (number_at w8) _ (number_exact w8 wide8)
    (λ n. tag_is content_kind _ _ _ n 1 (made_of _ contents.Application vector _ vector_at vector_exact (λ x. (tt, refl)) (λ x. refl) is_application_by_kind)
    (λ x. tag_is content_kind _ _ _ n 2 (made_of _ contents.Proposal proposal _ proposal_at proposal_exact (λ x. (tt, refl)) (λ x. refl) is_proposal_by_kind)
    (λ y. tag_is content_kind _ _ _ n 3 (made_of _ contents.Commit commit _ commit_at commit_exact (λ x. (tt, refl)) (λ x. refl) is_commit_by_kind)
    (λ z. never _ _ (no_content n x y z))))))

pub content_long : IsLong content
unfolding content
content_long (contents.Application d) front h = long_left (number w8 1) _ front (number_long w8 wide8 1) h
content_long (contents.Proposal p) front h = long_left (number w8 2) _ front (number_long w8 wide8 2) h
content_long (contents.Commit c) front h = long_left (number w8 3) _ front (number_long w8 wide8 3) h

-- ---- framed contents

pub framed_content_exact : IsExact framed_content framed_content_at
unfolding framed_content framed_content_at
framed_content_exact =
    field_then Any (λ f. f.group_id) vector _ vector_at _ vector_exact
    (λ a. field_then _ (λ f. f.epoch) (number w64) _ (number_at w64) _ (number_exact w64 wide64)
    (λ b. field_then _ (λ f. f.sender) sender _ sender_at _ sender_exact
    (λ c. field_then _ (λ f. f.authenticated) vector _ vector_at _ vector_exact
    (λ d. made_of _ (λ x. record { group_id = a; epoch = b; sender = c; authenticated = d; content = x }) content _ content_at content_exact
    (λ x. ((((tt, refl), refl), refl), refl)) (λ x. refl)
    (λ f p. (f.content, rw (← p.0.0.0.1, ← p.0.0.1, ← p.0.1, ← p.1) refl))))))

pub framed_content_long : IsLong framed_content
unfolding framed_content
framed_content_long f front h = long_left (vector f.group_id) _ front (vector_long f.group_id) h
