-- What the parts of the rules for a commit say of the whole commit.
use Rattle.std.proofs.Common.{◌≡◌, ◌≢◌, ◌∙◌, ◌<◌, ◌≤◌, ◌∷◌, ◌++◌, [], ℕ, List, true, false, Option, Some, None, IsSome, refl, sym, ap}
use Rattle.std.specs.Prelude.{option_and_then, is_some, nat_lt}
use Rattle.std.proofs.lemmas.Bool.{false≢true}
use Rattle.std.proofs.lemmas.Option.{none-some}
use Rattle.mls_nodes.specs.declared.required_capabilities.RequiredCapabilities.{RequiredCapabilities}
use Rattle.mls_nodes.specs.Limits.{leaf_limit}
use Rattle.mls_tree.specs.Tree.{Tree, leaf_count, member_count}
use Rattle.mls_tree.specs.TreeOperations.{seat}
use Rattle.mls_tree.proofs.Choices.{is_less, not_less}
use Rattle.mls_hash.specs.SuiteHash.{hash_of}
use Rattle.mls_check.specs.DistinctKeys.{has_distinct_keys}
use Rattle.mls_check.specs.LeafValidation.{LeavesAreValid, IsMemberFault, member_fault}
use Rattle.mls_check.specs.Signatures.{VerifyFn}
use Rattle.mls_check.specs.declared.members.MemberFault.{MemberFault}
use Rattle.mls_check.specs.declared.members.MemberFault.TheVariants as members
use Rattle.mls_check.proofs.FirstFault.{fault-first, members-faultless}
use Rattle.mls_msgs.specs.declared.authenticated.AuthenticatedParts.{AuthenticatedParts}
use Rattle.mls_msgs.specs.declared.commit.Commit.{Commit}
use Rattle.mls_msgs.specs.declared.commit.UpdatePath.{UpdatePath}
use Rattle.mls_msgs.specs.declared.framed_content.Content.TheVariants as contents
use Rattle.mls_msgs.specs.declared.framed_content.Sender.{Sender}
use Rattle.mls_msgs.specs.declared.framed_content.Sender.TheVariants.{Member, NewMemberCommit}
use Rattle.mls_msgs.specs.declared.proposal.Proposal.{Proposal}
use Rattle.mls_msgs.specs.declared.proposal.ProposalOrRef.{ProposalOrRef}
use Rattle.mls_nodes.specs.declared.context.GroupContext.{GroupContext}
use Rattle.mls_apply.specs.AddedKeys.{have_distinct_added_keys}
use Rattle.mls_apply.specs.Senders.{is_present}
use Rattle.mls_apply.specs.declared.fault.ApplyFault.{ApplyFault}
use Rattle.mls_apply.specs.declared.fault.ApplyFault.TheVariants as faults
use Rattle.mls_apply.specs.declared.list_item.ListItem.{ListItem}
use Rattle.mls_apply.specs.declared.refusal.Refusal.{Refusal}
use Rattle.mls_apply.specs.declared.refusal.Refusal.TheVariants as refusals
use Rattle.mls_apply.specs.declared.refusal.Refusal.TheVariants.{PathMissing, TooManyLeaves}
use Rattle.mls_apply.specs.ContextExtensions.{proposed_extensions}
use Rattle.mls_apply.specs.ResolvedList.{resolved}
use Rattle.mls_apply.specs.JoinRules.{path_of_join, join_items, join_refusal}
use Rattle.mls_apply.specs.ListRules.{list_rules, list_refusal}
use Rattle.mls_apply.specs.AppliedList.{AppliedTree, applied_tree, outcome, without_adds, with_members, new_members}
use Rattle.mls_apply.specs.PathRules.{path_refusal}
use Rattle.mls_apply.specs.ProposalRules.{checked_refusal}
use Rattle.mls_apply.specs.Refusals.{member_refusal, unapplied}
use Rattle.mls_apply.specs.RuleLists.{Rule, rule, first_failing}
use Rattle.mls_apply.proofs.RepeatedAdds.{repeated_adds_repeat_keys}
use Rattle.mls_apply.proofs.RuleLists.{first_failing-left, first_failing-right}
use Rattle.mls_follow.specs.State.{State, last_epoch}
use Rattle.mls_follow.specs.MessageRules.{is_new_proposal, proposal_message_rules, proposal_list_rules, inline_rules, applied_tree_rules, required_after, rules_with_requirements, path_rules_of, CommitterTree, seated, committer_tree, committer_tree_rules, member_rules, tree_rules, resulting, changed_tree}
use Rattle.mls_follow.specs.MessageRulesInternal.{commit_refusal, handshake_refusal, external_commit_refusal}
use Rattle.mls_follow.specs.CommitTree.{committer_rules, change_rules}
use Rattle.mls_follow.specs.AcceptanceInternal.{FailsWithRule}

-- a list has no outcome where an Update or a Remove meets a leaf that isn't set
pub no_outcome : (items : List ListItem) (t : Tree) → without_adds items t ≡ None → outcome items t ≡ None
unfolding outcome
no_outcome items t e = ap (option_and_then (with_members (new_members items))) e

-- a list that cannot be applied has none, and is refused so
pub not_applied : (fault : ApplyFault) (items : List ListItem) (t : Tree) → (fault ≡ faults.NoSuchLeaf → without_adds items t ≡ None)
    → (fault ≡ faults.TooManyLeaves → outcome items t ≡ None) → unapplied fault ≢ refusals.OutOfMemory → (outcome items t ≡ None) × (unapplied fault ≡ TooManyLeaves)
not_applied faults.NoSuchLeaf items t blank full own = (no_outcome items t (blank refl), refl)
not_applied faults.TooManyLeaves items t blank full own = (full refl, refl)
not_applied faults.OutOfMemory items t blank full own = absurd (own refl)

-- a commit in an epoch that has a next one, whose list is resolved
module _ (G : VerifyFn) (s : State) (required : RequiredCapabilities) (i : ℕ) (c : Commit) (later : nat_lt s.context.epoch last_epoch ≡ true)
    (items : List ListItem) (r : resolved (Member i) s.known c.proposals ≡ Some items) where
  -- the rules for the list, and for what follows it
  of_list : List (Rule Refusal)
  of_list = list_rules (Member i) items (is_some c.path)

  of_outcome : List (Rule Refusal)
  of_outcome = rules_with_requirements G s (Member i) c.path (outcome items s.tree) (required_after required (proposed_extensions items))

  -- its rules are those for its list
  whole : commit_refusal G s required i c ≡ first_failing (proposal_list_rules G s required i c (Some items))
  unfolding commit_refusal
  whole = rw (later, r) refl

  -- a proposal by value fails a rule
  pub inline_failed : (e : Refusal) → first_failing (inline_rules G s i c) ≡ Some e → commit_refusal G s required i c ≡ Some e
  unfolding of_list of_outcome
  inline_failed e f = whole ∙ first_failing-left (inline_rules G s i c) (of_list ++ of_outcome) e f

  module _ (inline : first_failing (inline_rules G s i c) ≡ None) where
    past_inline : commit_refusal G s required i c ≡ first_failing (of_list ++ of_outcome)
    unfolding of_list of_outcome
    past_inline = whole ∙ first_failing-right (inline_rules G s i c) (of_list ++ of_outcome) inline

    -- its list fails a rule
    pub list_failed : (e : Refusal) → list_refusal (Member i) items (is_some c.path) ≡ Some e → commit_refusal G s required i c ≡ Some e
    unfolding of_list list_refusal
    list_failed e f = past_inline ∙ first_failing-left of_list of_outcome e f

    module _ (kept : list_refusal (Member i) items (is_some c.path) ≡ None) where
      -- what is left is what follows the list
      pub past_list : commit_refusal G s required i c ≡ first_failing (rules_with_requirements G s (Member i) c.path (outcome items s.tree) (required_after required (proposed_extensions items)))
      unfolding of_list of_outcome list_refusal
      past_list = past_inline ∙ first_failing-right of_list of_outcome kept

-- an external commit with a path is judged by the rules for its list, and what follows them
module _ (context : GroupContext) (t : Tree) (es : List ProposalOrRef) where
  by_path : (o : Option UpdatePath) → IsSome o
      → first_failing (rule PathMissing (is_some o) ∷ path_of_join context t es o) ≡ first_failing (path_of_join context t es o)
  by_path None h = absurd (false≢true h)
  by_path (Some path) h = refl

-- in an epoch that has a next one
module _ (G : VerifyFn) (s : State) (required : RequiredCapabilities) (c : Commit) (has : IsSome c.path) (later : nat_lt s.context.epoch last_epoch ≡ true) where
  -- the rules for its list, and for what follows it
  of_join : List (Rule Refusal)
  of_join = path_of_join s.context s.tree c.proposals c.path

  of_joined : List (Rule Refusal)
  of_joined =
      rules_with_requirements G s NewMemberCommit c.path (outcome (join_items c.proposals) s.tree) (required_after required (proposed_extensions (join_items c.proposals)))

  past_epoch : external_commit_refusal G s required c ≡ first_failing (of_join ++ of_joined)
  unfolding external_commit_refusal of_join of_joined
  past_epoch = rw later refl

  join_word : join_refusal s.context s.tree c ≡ first_failing (path_of_join s.context s.tree c.proposals c.path)
  unfolding join_refusal
  join_word = by_path s.context s.tree c.proposals c.path has

  -- its list fails a rule
  pub join_failed : (e : Refusal) → join_refusal s.context s.tree c ≡ Some e → external_commit_refusal G s required c ≡ Some e
  unfolding of_join
  join_failed e f = past_epoch ∙ first_failing-left of_join of_joined e (sym join_word ∙ f)

  -- what is left is what follows the list
  pub past_join : join_refusal s.context s.tree c ≡ None → external_commit_refusal G s required c
      ≡ first_failing (rules_with_requirements G s NewMemberCommit c.path (outcome (join_items c.proposals) s.tree) (required_after required (proposed_extensions (join_items c.proposals))))
  unfolding of_join of_joined
  past_join kept = past_epoch ∙ first_failing-right of_join of_joined (sym join_word ∙ kept)

-- what follows the list of a commit
module _ (G : VerifyFn) (s : State) (required : RequiredCapabilities) (committer : Sender) (path : Option UpdatePath) where
  committer_failed : (q : Option CommitterTree) (e : Refusal) → first_failing (committer_rules (hash_of s.context.cipher_suite) path q) ≡ Some e
      → first_failing (committer_tree_rules G s required path q) ≡ Some e
  committer_failed None e f = f
  committer_failed (Some q) e f =
      first_failing-left (path_rules_of (hash_of s.context.cipher_suite) q.applied_tree q.leaf path) (tree_rules G s required (resulting (hash_of s.context.cipher_suite) q.applied_tree q.leaf path)) e f

  committer_kept : (q : Option CommitterTree) (t : Tree) → first_failing (committer_rules (hash_of s.context.cipher_suite) path q) ≡ None
      → option_and_then (λ q. resulting (hash_of s.context.cipher_suite) q.applied_tree q.leaf path) q ≡ Some t
      → first_failing (committer_tree_rules G s required path q) ≡ first_failing (tree_rules G s required (Some t))
  committer_kept None t f e = absurd (none-some t e)
  committer_kept (Some q) t f e =
      first_failing-right (path_rules_of (hash_of s.context.cipher_suite) q.applied_tree q.leaf path) (tree_rules G s required (resulting (hash_of s.context.cipher_suite) q.applied_tree q.leaf path)) f
      ∙ ap (λ (x : Option Tree). first_failing (tree_rules G s required x)) e

  -- the list has no outcome, the committer no leaf, or the path fails a rule
  pub change_failed : (o : Option AppliedTree) (e : Refusal) → first_failing (change_rules (hash_of s.context.cipher_suite) committer path o) ≡ Some e
      → first_failing (applied_tree_rules G s required committer path o) ≡ Some e
  change_failed o e f = committer_failed (option_and_then (committer_tree committer) o) e f

  -- what is left is to judge the tree
  pub change_kept : (o : Option AppliedTree) (t : Tree) → first_failing (change_rules (hash_of s.context.cipher_suite) committer path o) ≡ None
      → changed_tree (hash_of s.context.cipher_suite) committer path o ≡ Some t → first_failing (applied_tree_rules G s required committer path o) ≡ first_failing (tree_rules G s required (Some t))
  change_kept o t f e = committer_kept (option_and_then (committer_tree committer) o) t f e

-- a client that joins takes the leaf of the next new member, or there is none
pub placed_there : (g : AppliedTree) (t : Tree) (j : ℕ) (js : List ℕ) → member_count g.tree < leaf_limit → t ≡ (seat g.tree).tree → j ≡ (seat g.tree).leaf → js ≡ []
    → committer_tree NewMemberCommit g ≡ Some (record { applied_tree = applied_tree t js; leaf = j })
placed_there g t j js capacity tree leaf none =
    let some : committer_tree NewMemberCommit g ≡ Some (seated g) = rw (is_less (member_count g.tree) leaf_limit capacity) refl in
    some ∙ (λ i. Some (record { applied_tree = applied_tree (sym tree i) (sym none i); leaf = sym leaf i }))

pub no_committer_tree : (g : AppliedTree) → leaf_limit ≤ member_count g.tree → committer_tree NewMemberCommit g ≡ None
no_committer_tree g full = rw (not_less (member_count g.tree) leaf_limit full) refl

-- the committer has a leaf in the tree after its list
module _ (H : List ℕ → List ℕ) (committer : Sender) (path : Option UpdatePath) (o : Option AppliedTree) (g : AppliedTree) (q : CommitterTree)
    (made : o ≡ Some g) (at : committer_tree committer g ≡ Some q) where
  pub change_committer_tree : first_failing (change_rules H committer path o) ≡ first_failing (path_rules_of H q.applied_tree q.leaf path)
  change_committer_tree =
      ap (λ (p : Option AppliedTree). first_failing (change_rules H committer path p)) made
      ∙ ap (λ (p : Option CommitterTree). first_failing (committer_rules H path p)) at

  pub changed_committer_tree : changed_tree H committer path o ≡ resulting H q.applied_tree q.leaf path
  changed_committer_tree =
      ap (λ (p : Option AppliedTree). changed_tree H committer path p) made
      ∙ ap (λ (p : Option CommitterTree). option_and_then (λ (r : CommitterTree). resulting H r.applied_tree r.leaf path) p) at

-- a commit is judged by the rules for commits
pub of_commit : (G : VerifyFn) (s : State) (required : RequiredCapabilities) (a : AuthenticatedParts) (i : ℕ) (c : Commit)
    → handshake_refusal G s required a i (contents.Commit c) ≡ commit_refusal G s required i c
unfolding handshake_refusal commit_refusal
of_commit G s required a i c = refl

-- a new proposal of a sender whose leaf is set, if it is a member, is judged by the rules for it alone
pub offer_word : (G : VerifyFn) (s : State) (a : AuthenticatedParts) (sender : Sender) (p : Proposal) → is_new_proposal s a ≡ true → is_present s.tree sender ≡ true
    → first_failing (proposal_message_rules G s a sender p) ≡ checked_refusal G s.context s.tree sender p
unfolding checked_refusal
offer_word G s a sender p new set = rw (new, set) refl

-- a path of a leaf of the tree is judged by its rules alone
pub path_word : (H : List ℕ → List ℕ) (g : AppliedTree) (i : ℕ) (path : UpdatePath) → nat_lt i (leaf_count g.tree) ≡ true
    → first_failing (path_rules_of H g i (Some path)) ≡ path_refusal H g i path
unfolding path_refusal
path_word H g i path inside = rw inside refl

-- the tree after a commit, whose keys are distinct
module _ (G : VerifyFn) (s : State) (required : RequiredCapabilities) (t : Tree) (distinct : has_distinct_keys t ≡ true) where
  of_members : first_failing (tree_rules G s required (Some t)) ≡ first_failing (member_rules (member_fault G s.context.cipher_suite s.context.group_id required t))
  of_members = rw distinct refl

  pub tree_kept : LeavesAreValid G s.context.cipher_suite s.context.group_id required t → first_failing (tree_rules G s required (Some t)) ≡ None
  tree_kept h =
      of_members
      ∙ ap (λ (o : Option MemberFault). first_failing (member_rules o)) ((members-faultless G s.context.cipher_suite s.context.group_id required t).0 h)

  stranger : (f : MemberFault) → f ≢ members.OutOfMemory → IsMemberFault G s.context.cipher_suite s.context.group_id required t f
      → first_failing (tree_rules G s required (Some t)) ≡ Some (refusals.Member f)
  stranger f own h =
      of_members
      ∙ ap (λ (o : Option MemberFault). first_failing (member_rules o)) ((fault-first G s.context.cipher_suite s.context.group_id required t f own).0 h)

  pub tree_failed : (f : MemberFault) → IsMemberFault G s.context.cipher_suite s.context.group_id required t f
      → FailsWithRule (first_failing (tree_rules G s required (Some t))) (member_refusal f)
  tree_failed (members.ExtensionUnlisted i) h = λ _. stranger (members.ExtensionUnlisted i) (λ e. cc) h
  tree_failed (members.RequirementUnmet i) h = λ _. stranger (members.RequirementUnmet i) (λ e. cc) h
  tree_failed (members.CredentialUnsupported i) h = λ _. stranger (members.CredentialUnsupported i) (λ e. cc) h
  tree_failed (members.SignatureKeyRepeated i) h = λ _. stranger (members.SignatureKeyRepeated i) (λ e. cc) h
  tree_failed (members.LeafSignature i) h = λ _. stranger (members.LeafSignature i) (λ e. cc) h
  tree_failed members.OutOfMemory h = λ own. absurd (own refl)

-- ---- a commit without a path, two of whose Adds have one encryption key

module _ (items : List ListItem) (t : Tree) (repeated : have_distinct_added_keys items ≡ false)
    (G : VerifyFn) (s : State) (required : RequiredCapabilities) (i : ℕ) where
  key_repeated : (g : AppliedTree) → outcome items t ≡ Some g → first_failing (applied_tree_rules G s required (Member i) None (Some g)) ≡ Some refusals.KeyRepeated
  key_repeated g e = rw (repeated_adds_repeat_keys items t g e repeated) refl

  by_outcome : (o : Option AppliedTree) → outcome items t ≡ o → IsSome o → first_failing (applied_tree_rules G s required (Member i) None o) ≡ Some refusals.KeyRepeated
  by_outcome None e set = absurd (false≢true set)
  by_outcome (Some g) e set = key_repeated g e

  -- its list can be applied
  pub repeated_refused : IsSome (outcome items t) → first_failing (applied_tree_rules G s required (Member i) None (outcome items t)) ≡ Some refusals.KeyRepeated
  repeated_refused set = by_outcome (outcome items t) refl set

-- its list cannot be applied
pub unfit_refused : (items : List ListItem) (t : Tree) (G : VerifyFn) (s : State) (required : RequiredCapabilities) (i : ℕ) → outcome items t ≡ None
    → first_failing (applied_tree_rules G s required (Member i) None (outcome items t)) ≡ Some refusals.TooManyLeaves
unfit_refused items t G s required i none = ap (λ (o : Option AppliedTree). first_failing (applied_tree_rules G s required (Member i) None o)) none
