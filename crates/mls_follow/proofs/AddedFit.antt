-- Whom a commit adds: the references of its Adds have the length of the suite's hashes, and there are no more of them than members after it.
use Rattle.std.proofs.Common.{◌≡◌, ◌∙◌, ℕ, suc, ◌+◌, ◌≤◌, List, [], ◌∷◌, ◌++◌, length, Bool, true, false, Option, Some, None, Ok, refl, sym, ap, subst, arith, inl, inr}
use Rattle.std.specs.Prelude.{All, ◌==◌, ◌&&◌, not, ◌⊎◌, if◌then◌else◌, is_some, option_and_then, option_map}
use Rattle.std.specs.List.{list_all}
use Rattle.std.specs.Str.{bytes_eq}
use Rattle.std.proofs.lemmas.Bool.{eqb-true, eq-eqb, false≢true, lt-ltb}
use Rattle.std.proofs.lemmas.List.Elements.{All-nil, All-cons, All-head, All-tail, All-push}
use Rattle.std.proofs.lemmas.Option.{none-some, option_and_then_some, same_Some}
use Rattle.mls_nodes.specs.declared.context.GroupContext.{GroupContext}
use Rattle.mls_nodes.specs.declared.required_capabilities.RequiredCapabilities.{RequiredCapabilities}
use Rattle.mls_tree.specs.Tree.{Tree, member_count}
use Rattle.mls_tree.specs.TreeHash.{tree_hash}
use Rattle.mls_hash.specs.SuiteHash.{hash_of, hash_length, ref_hash_input}
use Rattle.mls_hash.proofs.Lengths.{length-hashed}
use Rattle.mls_check.specs.LeafValidation.{is_leaf_signed}
use Rattle.mls_check.specs.Signatures.{VerifyFn}
use Rattle.mls_msgs.specs.Layout.{key_package}
use Rattle.mls_msgs.specs.declared.authenticated.AuthenticatedParts.{AuthenticatedParts}
use Rattle.mls_msgs.specs.declared.commit.Commit.{Commit}
use Rattle.mls_msgs.specs.declared.framed_content.Sender.{Sender}
use Rattle.mls_msgs.specs.declared.proposal.Proposal.{Proposal}
use Rattle.mls_msgs.specs.declared.proposal.Proposal.TheVariants.{Add, Update, Remove, ContextExtensions, PreSharedKey, ReInit, ExternalInit}
use Rattle.mls_apply.specs.AppliedList.{added_to, new_members}
use Rattle.mls_apply.specs.PackageRefs.{added_references, item_references, package_ref, package_reference_label, reference_list}
use Rattle.mls_apply.specs.ProposalRules.{fits_group, is_from_key_package, is_package_signed, is_valid_add, proposal_rules, valid_if_add}
use Rattle.mls_apply.specs.declared.list_item.KnownProposal.{KnownProposal}
use Rattle.mls_apply.specs.declared.list_item.ListItem.{ListItem}
use Rattle.mls_apply.proofs.RuleLists.{AreKept, passed}
use Rattle.mls_apply.specs.AppliedList.{outcome}
use Rattle.mls_apply.specs.ContextExtensions.{proposed_extensions}
use Rattle.mls_apply.specs.JoinRules.{is_join_list, is_join_proposal, is_value, join_items, joiner_item, path_of_join}
use Rattle.mls_apply.specs.ListRules.{list_rules}
use Rattle.mls_apply.specs.ProposalRules.{all_inline, holds_if_by_value}
use Rattle.mls_apply.specs.ResolvedList.{entry_item, find_known, item_of, resolved, with_first}
use Rattle.mls_apply.specs.RuleLists.{first_failing}
use Rattle.mls_apply.specs.Transcript.{confirmed_hash, interim_hash}
use Rattle.mls_apply.proofs.Merging.{came_from}
use Rattle.mls_apply.proofs.RuleLists.{passed_both, refused}
use Rattle.mls_msgs.specs.declared.commit.UpdatePath.{UpdatePath}
use Rattle.mls_msgs.specs.declared.framed_content.Content.{Content}
use Rattle.mls_msgs.specs.declared.framed_content.Content.TheVariants as contents
use Rattle.mls_msgs.specs.declared.framed_content.Sender.TheVariants as senders
use Rattle.mls_msgs.specs.declared.message.Message.{Message}
use Rattle.mls_msgs.specs.declared.message.Message.TheVariants as messages
use Rattle.mls_msgs.specs.declared.profile.Profile.{Profile}
use Rattle.mls_msgs.specs.declared.profile.Profile.TheVariants.{Members, Full}
use Rattle.mls_msgs.specs.declared.proposal.ProposalOrRef.{ProposalOrRef}
use Rattle.mls_msgs.specs.declared.proposal.ProposalOrRef.TheVariants as entries
use Rattle.mls_nodes.specs.declared.leaf.LeafNode.{LeafNode}
use Rattle.mls_tree.specs.Tree.{leaf_at}
use Rattle.mls_wire.specs.Encoding.{vector}
use Rattle.mls_follow.specs.Acceptance.{IsAcceptable, IsNext}
use Rattle.mls_follow.specs.MessageRules.{content_rules, frame_rules, if_full, inline_rules, joiner_rules, leaf_rules, message_rules, proposal_list_rules, reference_of, required_after, rules_with_requirements, sender_rules, signed_commit_rules}
use Rattle.mls_follow.specs.NextState.{Transition, after_commit, after_content, after_join, after_outside, after_proposal, after_sender, after_tree, commit_tree, committed, next, references_after, with_list}
use Rattle.mls_follow.specs.Resumption.{added_misfit, misfit}
use Rattle.mls_follow.specs.Runs.{IsTransition}
use Rattle.mls_follow.specs.State.{State}
use Rattle.mls_follow.specs.declared.taken.Taken.TheVariants as takens
use Rattle.mls_follow.proofs.Answering.{one_message}
use Rattle.mls_follow.proofs.CountedMembers.{commit_members}
use Rattle.mls_follow.proofs.Stepping.{Moves, Stays, taken}
use Rattle.mls_follow.proofs.StrictLists.{plain_kept}

-- ---- the suite of a KeyPackage

-- an Add is of the suite
abbrev pub OfSuite : ℕ → Proposal → Type 0
OfSuite suite (Add k) = k.cipher_suite ≡ suite
OfSuite suite (Update _) = Unit {0}
OfSuite suite (Remove _) = Unit {0}
OfSuite suite (ContextExtensions _) = Unit {0}
OfSuite suite (PreSharedKey _) = Unit {0}
OfSuite suite (ReInit _) = Unit {0}
OfSuite suite (ExternalInit _) = Unit {0}

and_one : (a b : Bool) → (a && b) ≡ true → a ≡ true
and_one true b e = refl
and_one false b e = absurd (false≢true e)

and_two : (a b : Bool) → (a && b) ≡ true → b ≡ true
and_two true b e = e
and_two false b e = absurd (false≢true e)

valid_suite : (G : VerifyFn) (context : GroupContext) (p : Proposal) → valid_if_add G context p ≡ true → OfSuite context.cipher_suite p
unfolding is_valid_add fits_group
valid_suite G context (Add k) e =
    let version = k.version == context.version in
    let suite = k.cipher_suite == context.cipher_suite in
    let source = is_from_key_package k.leaf_node.source in
    let init = not (bytes_eq k.init_key k.leaf_node.encryption_key) in
    let leaf = is_leaf_signed G context.cipher_suite context.group_id 0 k.leaf_node in
    let package_signed = is_package_signed G context.cipher_suite k in
    let fits : (version && suite && source && init) ≡ true = and_one (version && suite && source && init) leaf (and_one (version && suite && source && init && leaf) package_signed e) in
    eqb-true k.cipher_suite context.cipher_suite (and_two version suite (and_one (version && suite) source (and_one (version && suite && source) init fits)))
valid_suite G context (Update _) e = tt
valid_suite G context (Remove _) e = tt
valid_suite G context (ContextExtensions _) e = tt
valid_suite G context (PreSharedKey _) e = tt
valid_suite G context (ReInit _) e = tt
valid_suite G context (ExternalInit _) e = tt

-- pending Adds are of the suite
abbrev pub AreSuited : ℕ → List KnownProposal → Type 0
AreSuited suite ks = All (λ k. OfSuite suite k.proposal) ks

pub nothing_suited : (suite : ℕ) (ks : List KnownProposal) → ks ≡ [] → AreSuited suite ks
nothing_suited suite ks e = subst (AreSuited suite) (sym e) (All-nil (λ k. OfSuite suite k.proposal))

pub suited_more : (G : VerifyFn) (context : GroupContext) (t : Tree) (ks : List KnownProposal) (k : KnownProposal) → AreSuited context.cipher_suite ks
    → AreKept (proposal_rules G context t k.sender k.proposal) → AreSuited context.cipher_suite (ks ++ k ∷ [])
suited_more G context t ks k all kept =
    All-push (λ k. OfSuite context.cipher_suite k.proposal) ks k all (valid_suite G context k.proposal (passed kept).0)

-- ---- the references

-- a list of references of the suite's length
abbrev pub AreHashed : ℕ → List (List ℕ) → Type 0
AreHashed suite rs = All (λ r. length r ≡ hash_length suite) rs

append_hashed : (suite : ℕ) (rs qs : List (List ℕ)) → AreHashed suite rs → AreHashed suite qs → AreHashed suite (rs ++ qs)
append_hashed suite [] qs a b = b
append_hashed suite (r ∷ rs) qs a b =
    All-cons (λ r. length r ≡ hash_length suite) r (rs ++ qs) (All-head (λ r. length r ≡ hash_length suite) r rs a)
    (append_hashed suite rs qs (All-tail (λ r. length r ≡ hash_length suite) r rs a) b)

list_hashed : (suite : ℕ) (o : Option (List ℕ)) → ((r : List ℕ) → o ≡ Some r → length r ≡ hash_length suite) → AreHashed suite (reference_list o)
list_hashed suite None h = All-nil (λ r. length r ≡ hash_length suite)
list_hashed suite (Some r) h = All-cons (λ r. length r ≡ hash_length suite) r [] (h r refl) (All-nil (λ r. length r ≡ hash_length suite))

item_hashed : (suite : ℕ) (p : Proposal) → OfSuite suite p → AreHashed suite (item_references p)
item_hashed suite (Add k) is =
    list_hashed suite (package_ref k) (λ r e.
    option_and_then_some (λ value. option_map (hash_of k.cipher_suite) (ref_hash_input package_reference_label value)) (key_package k) r e
    (λ value f g. length-hashed k.cipher_suite (ref_hash_input package_reference_label value) r g) ∙ ap hash_length is)
item_hashed suite (Update _) is = All-nil (λ r. length r ≡ hash_length suite)
item_hashed suite (Remove _) is = All-nil (λ r. length r ≡ hash_length suite)
item_hashed suite (ContextExtensions _) is = All-nil (λ r. length r ≡ hash_length suite)
item_hashed suite (PreSharedKey _) is = All-nil (λ r. length r ≡ hash_length suite)
item_hashed suite (ReInit _) is = All-nil (λ r. length r ≡ hash_length suite)
item_hashed suite (ExternalInit _) is = All-nil (λ r. length r ≡ hash_length suite)

-- Adds of a list are of the suite
abbrev pub AreOfSuite : ℕ → List ListItem → Type 0
AreOfSuite suite items = All (λ x. OfSuite suite x.proposal) items

pub items_hashed : (suite : ℕ) (items : List ListItem) → AreOfSuite suite items → AreHashed suite (added_references items)
items_hashed suite [] all = All-nil (λ r. length r ≡ hash_length suite)
items_hashed suite (x ∷ xs) all =
    append_hashed suite (item_references x.proposal) (added_references xs)
    (item_hashed suite x.proposal (All-head (λ x. OfSuite suite x.proposal) x xs all)) (items_hashed suite xs (All-tail (λ x. OfSuite suite x.proposal) x xs all))

list_short : (o : Option (List ℕ)) (rs : List (List ℕ)) → length (reference_list o ++ rs) ≤ suc (length rs)
list_short None rs = omega arith
list_short (Some r) rs = omega arith

-- there are no more than Adds
pub references_few : (items : List ListItem) → length (added_references items) ≤ length (new_members items)
unfolding new_members
references_few [] = omega arith
references_few (x ∷ xs) = go x.proposal (references_few xs)
  where
    go : (p : Proposal) → length (added_references xs) ≤ length (new_members xs) → length (item_references p ++ added_references xs) ≤ length (added_to p (new_members xs))
    go (Add k) h = omega (arith, h, list_short (package_ref k) (added_references xs))
    go (Update _) h = h
    go (Remove _) h = h
    go (ContextExtensions _) h = h
    go (PreSharedKey _) h = h
    go (ReInit _) h = h
    go (ExternalInit _) h = h

-- so they fit
fit_from : (suite members k : ℕ) (rs : List (List ℕ)) → AreHashed suite rs → k + length rs ≤ members → misfit suite members k rs ≡ None
fit_from suite members k [] all few = refl
fit_from suite members k (r ∷ rs) all few =
    rw (eq-eqb (length r) (hash_length suite) (All-head (λ r. length r ≡ hash_length suite) r rs all), lt-ltb k members (omega arith))
    (fit_from suite members (suc k) rs (All-tail (λ r. length r ≡ hash_length suite) r rs all) (omega arith))

pub references_fit : (suite : ℕ) (t : Tree) (rs : List (List ℕ)) → AreHashed suite rs → length rs ≤ member_count t → added_misfit suite t (Some rs) ≡ None
references_fit suite t rs all few = fit_from suite (member_count t) 0 rs all (omega arith)

-- ---- interim transcript hashes

pub length-interim : (suite : ℕ) (confirmed : List ℕ) (o : Option (List ℕ)) (hash : List ℕ) → interim_hash (hash_of suite) confirmed o ≡ Some hash
    → length hash ≡ hash_length suite
unfolding interim_hash
length-interim suite confirmed None hash e = absurd (none-some hash e)
length-interim suite confirmed (Some tag) hash e = length-tag (vector tag) e
  where
    length-tag : (v : Option (List ℕ)) → option_map (λ input. hash_of suite (confirmed ++ input)) v ≡ Some hash → length hash ≡ hash_length suite
    length-tag None f = absurd (none-some hash f)
    length-tag (Some input) f = length-hashed suite (Some (confirmed ++ input)) hash f

-- ---- the list of a commit

module _ (P : Proposal → Type 0) (committer : Sender) (known : List KnownProposal) (all : All (λ k. P k.proposal) known) where
  found_all : (ks : List KnownProposal) → All (λ k. P k.proposal) ks → (reference : List ℕ) (x : ListItem) → option_map item_of (find_known ks reference) ≡ Some x → P x.proposal
  found_all [] holds reference x e = absurd (none-some x e)
  found_all (k ∷ ks) holds reference x e = go (bytes_eq k.reference reference) (found_all ks (All-tail (λ k. P k.proposal) k ks holds) reference x) e
    where
      go : (b : Bool) → (option_map item_of (find_known ks reference) ≡ Some x → P x.proposal)
          → option_map item_of (if b then Some k else find_known ks reference) ≡ Some x → P x.proposal
      go true later e = subst (λ (y : ListItem). P y.proposal) (same_Some (item_of k) x e) (All-head (λ k. P k.proposal) k ks holds)
      go false later e = later e

  -- what a test of the proposals by value, and of the pending ones, gives of the list
  pub resolved_all : (test : Proposal → Bool) → ((p : Proposal) → test p ≡ true → P p) → (es : List ProposalOrRef) (items : List ListItem)
      → list_all (holds_if_by_value test) es ≡ true → resolved committer known es ≡ Some items → All (λ x. P x.proposal) items
  resolved_all test gives [] items inline e = subst (λ (xs : List ListItem). All (λ x. P x.proposal) xs) (same_Some [] items e) (All-nil (λ x. P x.proposal))
  resolved_all test gives (entry ∷ es) items inline e =
      by_first (entry_item committer known entry) (resolved committer known es) (by_entry entry (and_one (holds_if_by_value test entry) _ inline))
      (λ xs f. resolved_all test gives es xs (and_two (holds_if_by_value test entry) _ inline) f) e
    where
      by_entry : (y : ProposalOrRef) → holds_if_by_value test y ≡ true → (x : ListItem) → entry_item committer known y ≡ Some x → P x.proposal
      by_entry (entries.Proposal p) holds x f = subst (λ (z : ListItem). P z.proposal) (same_Some (record { sender = committer; proposal = p }) x f) (gives p holds)
      by_entry (entries.Reference reference) holds x f = found_all known all reference x f

      by_first : (o : Option ListItem) (r : Option (List ListItem)) → ((x : ListItem) → o ≡ Some x → P x.proposal)
          → ((xs : List ListItem) → r ≡ Some xs → All (λ x. P x.proposal) xs) → with_first o r ≡ Some items → All (λ x. P x.proposal) items
      by_first None r first rest f = absurd (none-some items f)
      by_first (Some x) None first rest f = absurd (none-some items f)
      by_first (Some x) (Some xs) first rest f =
          subst (λ (ys : List ListItem). All (λ x. P x.proposal) ys) (same_Some (x ∷ xs) items f) (All-cons (λ x. P x.proposal) x xs (first x refl) (rest xs refl))

-- an external commit adds nobody
join_suite : (suite : ℕ) (p : Proposal) → is_join_proposal p ≡ true → OfSuite suite p
join_suite suite (Add k) e = absurd (false≢true e)
join_suite suite (Update _) e = tt
join_suite suite (Remove _) e = tt
join_suite suite (ContextExtensions _) e = tt
join_suite suite (PreSharedKey _) e = tt
join_suite suite (ReInit _) e = tt
join_suite suite (ExternalInit _) e = tt

join_of_suite : (suite : ℕ) (es : List ProposalOrRef) → list_all (is_value is_join_proposal) es ≡ true → AreOfSuite suite (join_items es)
join_of_suite suite [] h = All-nil (λ x. OfSuite suite x.proposal)
join_of_suite suite (entries.Proposal p ∷ es) h =
    All-cons (λ x. OfSuite suite x.proposal) (joiner_item p) (join_items es) (join_suite suite p (and_one (is_join_proposal p) _ h))
    (join_of_suite suite es (and_two (is_join_proposal p) _ h))
join_of_suite suite (entries.Reference reference ∷ es) h = absurd (false≢true h)

-- ---- an epoch begins

-- what a commit with this list leaves
record Begins (s : State) (items : Option (List ListItem)) (t : State) : Type 0 where
  version : t.context.version ≡ s.context.version
  suite : t.context.cipher_suite ≡ s.context.cipher_suite
  epoch : t.context.epoch ≡ s.context.epoch + 1
  hashed : length t.interim ≡ hash_length s.context.cipher_suite
  known : t.known ≡ []
  added : t.added ≡ Some (references_after items)

tree_begins : (s : State) (items : Option (List ListItem)) (a : AuthenticatedParts) (t : Tree) (step : Transition) → after_tree (with_list s items) a t ≡ Some step → Begins s items step.state
tree_begins s items a t step e =
    let u = with_list s items in
    option_and_then_some (λ hash.
    option_and_then (λ confirmed. option_map (committed u t hash confirmed) (interim_hash (hash_of u.context.cipher_suite) confirmed a.confirmation_tag))
    (confirmed_hash (hash_of u.context.cipher_suite) u.interim a))
    (tree_hash (hash_of u.context.cipher_suite) 0 t) step e
    (λ hash f g.
    option_and_then_some (λ confirmed. option_map (committed u t hash confirmed) (interim_hash (hash_of u.context.cipher_suite) confirmed a.confirmation_tag))
    (confirmed_hash (hash_of u.context.cipher_suite) u.interim a) step g
    (λ confirmed k l.
    (let w = came_from (committed u t hash confirmed) (interim_hash (hash_of u.context.cipher_suite) confirmed a.confirmation_tag) step l in
    let begun : Begins s items (committed u t hash confirmed w.0).state = record {
      version = refl;
      suite = refl;
      epoch = refl;
      hashed = length-interim s.context.cipher_suite confirmed a.confirmation_tag w.0 w.1;
      known = refl;
      added = refl;
    } in
    subst (λ (v : Transition). Begins s items v.state) w.2 begun)))

commit_begins : (s : State) (a : AuthenticatedParts) (committer : Sender) (c : Commit) (items : Option (List ListItem)) (step : Transition)
    → after_commit s a committer c items ≡ Some step → Begins s items step.state
commit_begins s a committer c items step e =
    option_and_then_some (after_tree (with_list s items) a) (commit_tree s committer c items) step e (λ t f g. tree_begins s items a t step g)

-- the references of its Adds have the length of the suite's hashes
references_hashed : (suite : ℕ) (items : Option (List ListItem)) → ((xs : List ListItem) → items ≡ Some xs → AreOfSuite suite xs) → AreHashed suite (references_after items)
references_hashed suite None of = All-nil (λ r. length r ≡ hash_length suite)
references_hashed suite (Some xs) of = items_hashed suite xs (of xs refl)

-- the state after a commit, whose list's Adds are of the suite
record IsBegun (s : State) (t : State) : Type 0 where
  items : Option (List ListItem)
  begins : Begins s items t
  suited : (xs : List ListItem) → items ≡ Some xs → AreOfSuite s.context.cipher_suite xs

module _ (G : VerifyFn) (s : State) (known : AreSuited s.context.cipher_suite s.known) (required : RequiredCapabilities) (a : AuthenticatedParts) (step : Transition)
    (epoch : ℕ) (taken : step.taken ≡ takens.Commit epoch) where
  no_proposal : (sender : Sender) (p : Proposal) (o : Option (List ℕ)) → option_map (after_proposal s a sender p) o ≡ Some step → IsBegun s step.state
  no_proposal sender p o e =
      let w = came_from (after_proposal s a sender p) o step e in
      let bad = ap (λ (u : Transition). u.taken) w.2 ∙ taken in
      absurd (cc)

  member_suited : (i : ℕ) (c : Commit) (o : Option (List ListItem)) → resolved (senders.Member i) s.known c.proposals ≡ o → AreKept (proposal_list_rules G s required i c o)
      → (xs : List ListItem) → o ≡ Some xs → AreOfSuite s.context.cipher_suite xs
  unfolding all_inline
  member_suited i c None is kept xs e = absurd (none-some xs e)
  member_suited i c (Some items) is kept xs e =
      let of_list = list_rules (senders.Member i) items (is_some c.path) in
      let under = rules_with_requirements G s (senders.Member i) c.path (outcome items s.tree) (required_after required (proposed_extensions items)) in
      let inline = (passed_both (inline_rules G s i c) (of_list ++ under) kept).0 in
      resolved_all (OfSuite s.context.cipher_suite) (senders.Member i) s.known known (valid_if_add G s.context) (valid_suite G s.context) c.proposals xs (passed inline).0 (is ∙ e)

  content_begun : (i : ℕ) (x : LeafNode) (content : Content) → AreKept (content_rules G s required a i x content) → after_content s a i content ≡ Some step → IsBegun s step.state
  content_begun i x (contents.Application sent) kept e = absurd (none-some step e)
  content_begun i x (contents.Proposal p) kept e = no_proposal (senders.Member i) p (reference_of s.context a) e
  content_begun i x (contents.Commit c) kept e = record {
    items = resolved (senders.Member i) s.known c.proposals;
    begins = commit_begins s a (senders.Member i) c (resolved (senders.Member i) s.known c.proposals) step e;
    suited = member_suited i c (resolved (senders.Member i) s.known c.proposals) refl (passed (passed kept).1).1;
  }

  leaf_begun : (i : ℕ) (o : Option LeafNode) → AreKept (leaf_rules G s required a i o) → after_content s a i a.content.content ≡ Some step → IsBegun s step.state
  leaf_begun i None kept e = absurd (refused kept)
  leaf_begun i (Some x) kept e = content_begun i x a.content.content kept e

  outside_begun : (sender : Sender) (content : Content) → after_outside s a sender content ≡ Some step → IsBegun s step.state
  outside_begun sender (contents.Application sent) e = absurd (none-some step e)
  outside_begun sender (contents.Proposal p) e = no_proposal sender p (reference_of s.context a) e
  outside_begun sender (contents.Commit c) e = absurd (none-some step e)

  path_suited : (c : Commit) (o : Option UpdatePath) → c.path ≡ o → AreKept (signed_commit_rules G s required a c o) → AreOfSuite s.context.cipher_suite (join_items c.proposals)
  unfolding is_join_list
  path_suited c None is kept = absurd (refused kept)
  path_suited c (Some path) is kept =
      let external = (passed kept).1 in
      let of_join = path_of_join s.context s.tree c.proposals c.path in
      let under = rules_with_requirements G s senders.NewMemberCommit c.path (outcome (join_items c.proposals) s.tree) (required_after required (proposed_extensions (join_items c.proposals))) in
      let joins : AreKept of_join = (passed_both of_join under (passed external).1).0 in
      let list : AreKept (path_of_join s.context s.tree c.proposals (Some path)) = subst (λ (q : Option UpdatePath). AreKept (path_of_join s.context s.tree c.proposals q)) is joins in
      join_of_suite s.context.cipher_suite c.proposals (and_one (list_all (is_value is_join_proposal) c.proposals) _ (and_one _ _ (passed list).0))

  join_begun : (content : Content) → AreKept (joiner_rules G s required a content) → after_join s a content ≡ Some step → IsBegun s step.state
  join_begun (contents.Application sent) kept e = absurd (refused kept)
  join_begun (contents.Proposal p) kept e = absurd (refused kept)
  join_begun (contents.Commit c) kept e = record {
    items = Some (join_items c.proposals);
    begins = commit_begins s a senders.NewMemberCommit c (Some (join_items c.proposals)) step e;
    suited = λ xs f. subst (AreOfSuite s.context.cipher_suite) (same_Some (join_items c.proposals) xs f) (path_suited c c.path refl kept);
  }

  full_begun : (profile : Profile) → AreKept (if_full profile (joiner_rules G s required a a.content.content)) → after_join s a a.content.content ≡ Some step → IsBegun s step.state
  full_begun Members kept e = absurd (refused kept)
  full_begun Full kept e = join_begun a.content.content kept e

  sender_begun : (sender : Sender) → AreKept (sender_rules G s required a sender) → after_sender s a sender ≡ Some step → IsBegun s step.state
  sender_begun (senders.Member i) kept e = leaf_begun i (leaf_at 0 s.tree i) kept e
  sender_begun (senders.External k) kept e = outside_begun (senders.External k) a.content.content e
  sender_begun senders.NewMemberProposal kept e = outside_begun senders.NewMemberProposal a.content.content e
  sender_begun senders.NewMemberCommit kept e = full_begun s.profile kept e

message_begun : (G : VerifyFn) (s : State) → AreSuited s.context.cipher_suite s.known → (required : RequiredCapabilities) (m : Message) (step : Transition) (epoch : ℕ)
    → step.taken ≡ takens.Commit epoch → first_failing (message_rules G s required m) ≡ None → next s m ≡ Some step → IsBegun s step.state
message_begun G s known required (messages.Public p) step epoch taken none e =
    let frame : AreKept (frame_rules G s required p.auth) = record { none = none } in
    sender_begun G s known required p.auth step epoch taken p.auth.content.sender (passed (passed (passed frame).1).1).1 e
message_begun G s known required (messages.Unread w b) step epoch taken none e = absurd (none-some step e)
message_begun G s known required (messages.GroupInfo g) step epoch taken none e = absurd (none-some step e)
message_begun G s known required (messages.KeyPackage k) step epoch taken none e = absurd (none-some step e)

-- the version and the suite stay, the interim transcript hash is new, no proposal is pending, and the references of those that
-- were added fit
pub record Renews (s t : State) : Type 0 where
  pub version : t.context.version ≡ s.context.version
  pub suite : t.context.cipher_suite ≡ s.context.cipher_suite
  pub hashed : length t.interim ≡ hash_length s.context.cipher_suite
  pub known : t.known ≡ []
  pub added_fit : added_misfit s.context.cipher_suite t.tree t.added ≡ None

begun_renews : (G : VerifyFn) (s t : State) → IsBegun s t → Stays s t ⊎ Moves G s t → Renews s t
begun_renews G s t b (inl stays) =
    let same : t.context.epoch ≡ s.context.epoch = ap (λ (c : GroupContext). c.epoch) stays.context in
    absurd (omega (arith, same, b.begins.epoch))
begun_renews G s t b (inr moves) =
    let rs = references_after b.items in
    let alike : rs ≡ added_references moves.items = same_Some rs (added_references moves.items) (sym b.begins.added ∙ moves.added) in
    let few : length rs ≤ member_count t.tree =
    omega (arith, ap length alike, references_few moves.items, commit_members G s t moves) in
    record {
      version = b.begins.version;
      suite = b.begins.suite;
      hashed = b.begins.hashed;
      known = b.begins.known;
      added_fit =
          ap (added_misfit s.context.cipher_suite t.tree) b.begins.added
          ∙ references_fit s.context.cipher_suite t.tree rs (references_hashed s.context.cipher_suite b.items b.suited) few;
    }

pub accepted_renews : (G : VerifyFn) (s : State) → AreSuited s.context.cipher_suite s.known → (bytes : List ℕ) (epoch : ℕ) (new : State)
    → IsTransition G s bytes (Ok (takens.Commit epoch)) new → Renews s new
accepted_renews G s known bytes epoch new h =
    let a : IsAcceptable G s bytes = h.0 in
    let step : Transition = record { taken = takens.Commit epoch; state = new } in
    let n : IsNext s bytes step = h.1 in
    let kept = plain_kept G s a.required a.message a.rules_hold in
    let after : next s a.message ≡ Some step = ap (next s) (one_message a.message n.message bytes a.encoded n.encoded) ∙ n.after in
    begun_renews G s new (message_begun G s known a.required a.message step epoch refl kept after) (taken G s bytes (Ok (takens.Commit epoch)) new h)
