-- If no proposal type outside the members' profile is found up to the end of the proposals, then the value that is read
-- is in the members' profile.
use Rattle.std.proofs.Common.{◌≡◌, ◌≢◌, ◌∙◌, ◌+◌, ℕ, List, [], ◌∷◌, length, Bool, true, false, cond, Option, Some, None, Result, Ok, Err, refl, sym, eqb-true}
use Rattle.std.specs.Prelude.{nat_eq, if◌then◌else◌}
use Rattle.std.specs.Result.{IsErr, OnOk}
use Rattle.std.specs.Int.{w8, w16, w32, w64}
use Rattle.std.proofs.lemmas.Bool.{false≢true}
use Rattle.std.proofs.lemmas.List.{append-nil}
use Rattle.mls_wire.specs.Input.{Input, at}
use Rattle.mls_wire.specs.Parsing.{◌>>=◌, number_at, vector_at, body_at, items_at, list_at}
use Rattle.mls_wire.specs.ParsingInternal.{optional_at}
use Rattle.mls_wire.specs.ListLoops.{with_front, shortens, items_go_on, items_end}
use Rattle.mls_nodes.specs.LeafParsing.{leaf_node_at, extension_at}
use Rattle.mls_msgs.specs.Layout.{is_commit, is_member, proposal, proposal_or_ref}
use Rattle.mls_msgs.specs.Authenticated.{authenticated_content}
use Rattle.mls_msgs.specs.AuthenticatedExact.{authenticated_content_exact}
use Rattle.mls_msgs.specs.FrameParsing.{tag_if_at, frame_auth_at, frame_format_at, signed_frame_at, authenticated_content_at, public_message_at}
use Rattle.mls_msgs.specs.Message.{is_unread}
use Rattle.mls_msgs.specs.MessageParsing.{header_at, rest_at, message_body_at, message_at}
use Rattle.mls_msgs.specs.Parsing.{key_package_at, psk_id_at, reinit_at, proposal_at, proposal_or_ref_at, update_path_at, commit_at, content_at, sender_at, framed_content_at, group_info_at}
use Rattle.mls_msgs.specs.ProposalExact.{proposal_exact, proposal_or_ref_exact, proposal_or_ref_long}
use Rattle.mls_msgs.specs.MembersReading.{passes, entries_pass, message_passes}
use Rattle.mls_msgs.specs.Profile.{is_in, is_members_proposal, is_members_entry, are_members_entries, is_members_content, is_members_authenticated, is_members_message}
use Rattle.mls_msgs.specs.declared.authenticated.AuthenticatedParts.{AuthenticatedParts}
use Rattle.mls_msgs.specs.declared.commit.Commit.{Commit}
use Rattle.mls_msgs.specs.declared.commit.UpdatePath.{UpdatePath}
use Rattle.mls_msgs.specs.declared.framed_content.Content.{Content}
use Rattle.mls_msgs.specs.declared.framed_content.Content.TheVariants as contents
use Rattle.mls_msgs.specs.declared.framed_content.FramedContent.{FramedContent}
use Rattle.mls_msgs.specs.declared.framed_content.Sender.{Sender}
use Rattle.mls_msgs.specs.declared.message.Message.{Message}
use Rattle.mls_msgs.specs.declared.message.Message.TheVariants as messages
use Rattle.mls_msgs.specs.declared.profile.Profile.{Profile}
use Rattle.mls_msgs.specs.declared.profile.Profile.TheVariants.{Members, Full}
use Rattle.mls_msgs.specs.declared.proposal.Proposal.{Proposal}
use Rattle.mls_msgs.specs.declared.proposal.Proposal.TheVariants as proposals
use Rattle.mls_msgs.specs.declared.proposal.ProposalOrRef.{ProposalOrRef}
use Rattle.mls_msgs.specs.declared.proposal.ProposalOrRef.TheVariants as entries
use Rattle.mls_msgs.specs.declared.public_message.PublicParts.{PublicParts}

-- ---- values of several types

module _ {A : Type 0} (test : A → Bool) where
  either : (b : Bool) (o q : Option (A × Input)) → (b ≡ true → passes test o ≡ true) → (b ≡ false → passes test q ≡ true) → passes test (cond b o q) ≡ true
  either true o q x y = x refl
  either false o q x y = y refl

  -- a value that is made of another one
  wrapped : {B : Type 0} (make : B → A) (o : Option (B × Input)) → ((x : B) → test (make x) ≡ true) → passes test (o >>= λ x. Some (make x.0, x.1)) ≡ true
  wrapped make None all = refl
  wrapped make (Some x) all = all x.0

  made : {B : Type 0} (make : B → A) (inner : B → Bool) (o : Option (B × Input)) → ((x : B) → inner x ≡ true → test (make x) ≡ true) → passes inner o ≡ true
      → passes test (o >>= λ x. Some (make x.0, x.1)) ≡ true
  made make inner None all h = refl
  made make inner (Some x) all h = all x.0 h

-- ---- proposals and entries of a commit's list

proposal_body : (n : ℕ) (i : Input) → n ≢ 4 → n ≢ 5 → n ≢ 6
    → passes is_members_proposal (
    if nat_eq n 1 then (key_package_at i >>= λ x. Some (proposals.Add x.0, x.1))
    else if nat_eq n 2 then (leaf_node_at i >>= λ x. Some (proposals.Update x.0, x.1))
    else if nat_eq n 3 then (number_at w32 i >>= λ x. Some (proposals.Remove x.0, x.1))
    else if nat_eq n 4 then (psk_id_at i >>= λ x. Some (proposals.PreSharedKey x.0, x.1))
    else if nat_eq n 5 then (reinit_at i >>= λ x. Some (proposals.ReInit x.0, x.1))
    else if nat_eq n 6 then (vector_at i >>= λ x. Some (proposals.ExternalInit x.0, x.1))
    else if nat_eq n 7 then (list_at extension_at i >>= λ x. Some (proposals.ContextExtensions x.0, x.1))
    else None
    ) ≡ true
proposal_body n i a b c =
    either is_members_proposal (nat_eq n 1) _ _ (λ e. wrapped is_members_proposal proposals.Add (key_package_at i) (λ x. refl))
    (λ e. either is_members_proposal (nat_eq n 2) _ _ (λ e. wrapped is_members_proposal proposals.Update (leaf_node_at i) (λ x. refl))
    (λ e. either is_members_proposal (nat_eq n 3) _ _ (λ e. wrapped is_members_proposal proposals.Remove (number_at w32 i) (λ x. refl))
    (λ e. either is_members_proposal (nat_eq n 4) _ _ (λ e. absurd (a (eqb-true n 4 e)))
    (λ e. either is_members_proposal (nat_eq n 5) _ _ (λ e. absurd (b (eqb-true n 5 e)))
    (λ e. either is_members_proposal (nat_eq n 6) _ _ (λ e. absurd (c (eqb-true n 6 e)))
    (λ e. either is_members_proposal (nat_eq n 7) _ _ (λ e. wrapped is_members_proposal proposals.ContextExtensions (list_at extension_at i) (λ x. refl)) (λ e. refl)))))))

-- a proposal of another type than 4 to 6
pub proposal_passes : (i j : Input) (n : ℕ) → number_at w16 i ≡ Some (n, j) → n ≢ 4 → n ≢ 5 → n ≢ 6 → passes is_members_proposal (proposal_at i) ≡ true
unfolding proposal_at
proposal_passes i j n e a b c = rw e (proposal_body n j a b c)

entry_body : (n : ℕ) (i : Input) → (n ≡ 1 → passes is_members_proposal (proposal_at i) ≡ true)
    → passes is_members_entry (
    if nat_eq n 1 then (proposal_at i >>= λ x. Some (entries.Proposal x.0, x.1))
    else if nat_eq n 2 then (vector_at i >>= λ x. Some (entries.Reference x.0, x.1))
    else None
    ) ≡ true
entry_body n i h =
    either is_members_entry (nat_eq n 1) _ _ (λ e. made is_members_entry entries.Proposal is_members_proposal (proposal_at i) (λ x t. t) (h (eqb-true n 1 e)))
    (λ e. either is_members_entry (nat_eq n 2) _ _ (λ e. wrapped is_members_entry entries.Reference (vector_at i) (λ x. refl)) (λ e. refl))

-- an entry that is no proposal, or one that passes
pub entry_passes : (i j : Input) (n : ℕ) → number_at w8 i ≡ Some (n, j) → (n ≡ 1 → passes is_members_proposal (proposal_at j) ≡ true) → passes is_members_entry (proposal_or_ref_at i) ≡ true
unfolding proposal_or_ref_at
entry_passes i j n e h = rw e (entry_body n j h)

-- ---- a commit's list

front_none : (o : Option (List ProposalOrRef)) → with_front [] o ≡ o
front_none None = refl
front_none (Some es) = refl

headed : (e : ProposalOrRef) (o : Option (List ProposalOrRef)) → is_members_entry e ≡ true → entries_pass o ≡ true → entries_pass (with_front (e ∷ []) o) ≡ true
headed e None h t = refl
headed e (Some es) h t = rw (h, t) refl

-- the entries that are left
abbrev pub left_pass : Input → Type 0
left_pass i = entries_pass (items_at proposal_or_ref_at (length i.left) i) ≡ true

pub one_more_passes : (i j : Input) (e : ProposalOrRef) → (i.left ≡ [] → ⊥) → proposal_or_ref_at i ≡ Some (e, j) → passes is_members_entry (proposal_or_ref_at i) ≡ true → left_pass j → left_pass i
one_more_passes i j e some is here rest =
    let all = items_go_on proposal_or_ref_at (shortens proposal_or_ref proposal_or_ref_at proposal_or_ref_exact proposal_or_ref_long) [] i e j
    (items_at proposal_or_ref_at (length i.left) i) some is (front_none (items_at proposal_or_ref_at (length i.left) i)) in
    let head : is_members_entry e ≡ true = rw is at here in
    rw (← all) (headed e (items_at proposal_or_ref_at (length j.left) j) head rest)

pub end_passes : (i : Input) → i.left ≡ [] → left_pass i
end_passes i none =
    rw (items_end proposal_or_ref_at (shortens proposal_or_ref proposal_or_ref_at proposal_or_ref_exact proposal_or_ref_long) [] i
    (items_at proposal_or_ref_at (length i.left) i) none (front_none (items_at proposal_or_ref_at (length i.left) i))) refl

-- ---- contents

-- a list before its path, and a commit of both
abbrev then_at : Input → List ProposalOrRef → Option (List ProposalOrRef × Input)
then_at j es = Some (es, j)

abbrev path_behind : List ProposalOrRef × Input → Option (Commit × Input)
path_behind es = optional_at update_path_at es.1 >>= λ path. Some (record { proposals = es.0; path = path.0 }, path.1)

pathed : (es : List ProposalOrRef) (o : Option (Option UpdatePath × Input)) → are_members_entries es ≡ true
    → passes (λ (c : Commit). are_members_entries c.proposals) (o >>= λ path. Some (record { proposals = es; path = path.0 }, path.1)) ≡ true
pathed es None h = refl
pathed es (Some path) h = h

listed : (o : Option (List ProposalOrRef)) (j : Input) → entries_pass o ≡ true
    → passes (λ (c : Commit). are_members_entries c.proposals) ((o >>= then_at j) >>= path_behind) ≡ true
listed None j h = refl
listed (Some es) j h = pathed es (optional_at update_path_at j) h

pub commit_passes : (i j b : Input) → body_at i ≡ Some (b, j) → left_pass b → passes (λ (c : Commit). are_members_entries c.proposals) (commit_at i) ≡ true
unfolding commit_at list_at
commit_passes i j b e h = rw e (listed (items_at proposal_or_ref_at (length b.left) b) j h)

content_body : (n : ℕ) (i : Input) → (n ≡ 2 → passes is_members_proposal (proposal_at i) ≡ true) → (n ≡ 3 → passes (λ (c : Commit). are_members_entries c.proposals) (commit_at i) ≡ true)
    → passes is_members_content (
    if nat_eq n 1 then (vector_at i >>= λ x. Some (contents.Application x.0, x.1))
    else if nat_eq n 2 then (proposal_at i >>= λ x. Some (contents.Proposal x.0, x.1))
    else if nat_eq n 3 then (commit_at i >>= λ x. Some (contents.Commit x.0, x.1))
    else None
    ) ≡ true
content_body n i h k =
    either is_members_content (nat_eq n 1) _ _ (λ e. wrapped is_members_content contents.Application (vector_at i) (λ x. refl))
    (λ e. either is_members_content (nat_eq n 2) _ _ (λ e. made is_members_content contents.Proposal is_members_proposal (proposal_at i) (λ x t. t) (h (eqb-true n 2 e)))
    (λ e. either is_members_content (nat_eq n 3) _ _
    (λ e. made is_members_content contents.Commit (λ (c : Commit). are_members_entries c.proposals) (commit_at i) (λ x t. t) (k (eqb-true n 3 e))) (λ e. refl)))

pub content_passes : (i j : Input) (n : ℕ) → number_at w8 i ≡ Some (n, j) → (n ≡ 2 → passes is_members_proposal (proposal_at j) ≡ true)
    → (n ≡ 3 → passes (λ (c : Commit). are_members_entries c.proposals) (commit_at j) ≡ true) → passes is_members_content (content_at i) ≡ true
unfolding content_at
content_passes i j n e h k = rw e (content_body n j h k)

-- ---- frames

abbrev pub frame_passes : Input → Type 0
frame_passes i = passes (λ (f : FramedContent). is_members_content f.content) (framed_content_at i) ≡ true

framed : (group_id : List ℕ) (epoch : ℕ) (sender : Sender) (authenticated : List ℕ) (o : Option (Content × Input)) → passes is_members_content o ≡ true
    → passes (λ (f : FramedContent). is_members_content f.content)
    (o >>= λ content. Some (record { group_id = group_id; epoch = epoch; sender = sender; authenticated = authenticated; content = content.0 }, content.1)) ≡ true
framed group_id epoch sender authenticated None h = refl
framed group_id epoch sender authenticated (Some c) h = h

pub frame_of : (i j k l m : Input) (group_id : List ℕ) (epoch : ℕ) (sender : Sender) (authenticated : List ℕ) → vector_at i ≡ Some (group_id, j) → number_at w64 j ≡ Some (epoch, k)
    → sender_at k ≡ Some (sender, l) → vector_at l ≡ Some (authenticated, m) → passes is_members_content (content_at m) ≡ true → frame_passes i
unfolding framed_content_at
frame_of i j k l m group_id epoch sender authenticated a b c d h = rw (a, b, c, d) (framed group_id epoch sender authenticated (content_at m) h)

authed : (w : ℕ) (f : FramedContent) (o : Option ((List ℕ × Option (List ℕ)) × Input)) → is_members_content f.content ≡ true
    → passes is_members_authenticated (o >>= λ auth. Some (record { wire_format = w; content = f; signature = auth.0.0; confirmation_tag = auth.0.1 }, auth.1)) ≡ true
authed w f None h = refl
authed w f (Some auth) h = h

signed : (w : ℕ) (o : Option (FramedContent × Input)) → passes (λ (f : FramedContent). is_members_content f.content) o ≡ true
    → passes is_members_authenticated
    (o >>= λ content. frame_auth_at (is_commit content.0.content) content.1 >>= λ auth. Some (record { wire_format = w; content = content.0; signature = auth.0.0; confirmation_tag = auth.0.1 }, auth.1)) ≡ true
signed w None h = refl
signed w (Some content) h = authed w content.0 (frame_auth_at (is_commit content.0.content) content.1) h

signed_passes : (w : ℕ) (i : Input) → frame_passes i → passes is_members_authenticated (signed_frame_at w i) ≡ true
unfolding signed_frame_at
signed_passes w i h = signed w (framed_content_at i) h

pub authenticated_passes : (i j : Input) (w : ℕ) → frame_format_at i ≡ Some (w, j) → frame_passes j → passes is_members_authenticated (authenticated_content_at i) ≡ true
unfolding authenticated_content_at
authenticated_passes i j w e h = rw e (signed_passes w j h)

-- ---- messages

tagged : (a : AuthenticatedParts) (o : Option (Option (List ℕ) × Input)) → is_members_authenticated a ≡ true
    → passes (λ (p : PublicParts). is_members_authenticated p.auth) (o >>= λ tag. Some (record { auth = a; membership_tag = tag.0 }, tag.1)) ≡ true
tagged a None h = refl
tagged a (Some tag) h = h

public : (o : Option (AuthenticatedParts × Input)) → passes is_members_authenticated o ≡ true
    → passes (λ (p : PublicParts). is_members_authenticated p.auth)
    (o >>= λ auth. tag_if_at (is_member auth.0.content.sender) auth.1 >>= λ tag. Some (record { auth = auth.0; membership_tag = tag.0 }, tag.1)) ≡ true
public None h = refl
public (Some a) h = tagged a.0 (tag_if_at (is_member a.0.content.sender) a.1) h

public_passes : (i : Input) → frame_passes i → passes (λ (p : PublicParts). is_members_authenticated p.auth) (public_message_at i) ≡ true
unfolding public_message_at
public_passes i h = public (signed_frame_at 1 i) (signed_passes 1 i h)

ended : (b : Bool) (p : PublicParts) → is_members_authenticated p.auth ≡ true → message_passes ((if b then Some p else None) >>= λ m. Some (messages.Public m)) ≡ true
ended true p h = h
ended false p h = refl

whole : (o : Option (PublicParts × Input)) → passes (λ (p : PublicParts). is_members_authenticated p.auth) o ≡ true
    → message_passes ((o >>= λ x. if nat_eq (length x.1.left) 0 then Some x.0 else None) >>= λ m. Some (messages.Public m)) ≡ true
whole None h = refl
whole (Some x) h = ended (nat_eq (length x.1.left) 0) x.0 h

either_message : (b : Bool) (o q : Option Message) → (b ≡ true → message_passes o ≡ true) → (b ≡ false → message_passes q ≡ true) → message_passes (cond b o q) ≡ true
either_message true o q x y = x refl
either_message false o q x y = y refl

other_message : {B : Type 0} (make : B → Message) (o : Option B) → ((x : B) → is_members_message (make x) ≡ true) → message_passes (o >>= λ x. Some (make x)) ≡ true
other_message make None all = refl
other_message make (Some x) all = all x

body_passes : (n : ℕ) (i : Input) → (n ≡ 1 → frame_passes i) → message_passes (message_body_at n i) ≡ true
unfolding message_body_at
body_passes n i h =
    either_message (nat_eq n 1) _ _ (λ e. whole (public_message_at i) (public_passes i (h (eqb-true n 1 e))))
    (λ e. either_message (is_unread n) _ _ (λ e. refl)
    (λ e. either_message (nat_eq n 4) _ _ (λ e. other_message messages.GroupInfo (rest_at group_info_at i) (λ x. refl))
    (λ e. either_message (nat_eq n 5) _ _ (λ e. other_message messages.KeyPackage (rest_at key_package_at i) (λ x. refl)) (λ e. refl))))

pub message_of_passes : (bytes : List ℕ) (j : Input) (n : ℕ) → header_at (at 0 bytes) ≡ Some (n, j) → (n ≡ 1 → frame_passes j) → message_passes (message_at bytes) ≡ true
unfolding message_at
message_of_passes bytes j n e h = rw e (body_passes n j h)

-- ---- what passes is in both profiles

-- a search ends with a fault, if what it would else show is false
pub found : {T E : Type 0} (r : Result T E) (P : Type 0) → OnOk r P → (P → ⊥) → IsErr r
found (Ok v) P h none = absurd (none h)
found (Err e) P h none = refl

in_both : (profile : Profile) (b : Bool) → b ≡ true → is_in profile b ≡ false → ⊥
in_both Members b t f = false≢true (sym f ∙ t)
in_both Full b t f = false≢true (sym f)

module _ {A : Type 0} (test : A → Bool) (profile : Profile) where
  passed : (o : Option (A × Input)) (x : A × Input) → o ≡ Some x → passes test o ≡ true → is_in profile (test x.0) ≡ false → ⊥
  passed o x e h = in_both profile (test x.0) (rw e at h)

pub proposal_is_in : (profile : Profile) (v : Proposal) (bytes : List ℕ) → proposal v ≡ Some bytes → passes is_members_proposal (proposal_at (at 0 bytes)) ≡ true
    → is_in profile (is_members_proposal v) ≡ false → ⊥
proposal_is_in profile v bytes e =
    passed is_members_proposal profile (proposal_at (at 0 bytes)) (v, at (0 + length bytes) []) (rw append-nil at (proposal_exact.again v bytes [] 0 tt e))

pub authenticated_is_in : (profile : Profile) (v : AuthenticatedParts) (bytes : List ℕ) → authenticated_content v ≡ Some bytes
    → passes is_members_authenticated (authenticated_content_at (at 0 bytes)) ≡ true → is_in profile (is_members_authenticated v) ≡ false → ⊥
authenticated_is_in profile v bytes e =
    passed is_members_authenticated profile (authenticated_content_at (at 0 bytes)) (v, at (0 + length bytes) []) (rw append-nil at (authenticated_content_exact.again v bytes [] 0 tt e))

pub message_is_in : (profile : Profile) (v : Message) (bytes : List ℕ) → message_at bytes ≡ Some v → message_passes (message_at bytes) ≡ true → is_in profile (is_members_message v) ≡ false → ⊥
message_is_in profile v bytes e h = in_both profile (is_members_message v) (rw e at h)
