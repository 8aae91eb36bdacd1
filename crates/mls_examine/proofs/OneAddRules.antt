-- The rules of the profile for a commit of one Add: those for the KeyPackage in the group.
use Rattle.std.proofs.Common.{◌≡◌, ◌∙◌, ℕ, List, [], ◌∷◌, ◌++◌, Bool, true, false, Option, Some, None, IsSome, refl, sym, ap, arith}
use Rattle.std.specs.Prelude.{◌==◌, ◌&&◌, nat_lt, not, if◌then◌else◌, option_map, option_and_then, is_some}
use Rattle.std.specs.Int.{w8, w16}
use Rattle.std.specs.Str.{bytes_eq}
use Rattle.std.proofs.lemmas.Bool.{and_from, and_parts, eq-eqb}
use Rattle.std.proofs.lemmas.Bool.Decides.{Decides-eqb}
use Rattle.std.proofs.lemmas.Option.{none-some}
use Rattle.std.proofs.lemmas.Slice.Eq.{bytes_eq-Decides}
use Rattle.mls_wire.specs.EncodedSizes.{vector_some}
use Rattle.mls_wire.specs.Encoding.{◌⊕◌, items, list, number, optional, sized, vector}
use Rattle.mls_wire.specs.ListsExact.{sized_parts}
use Rattle.mls_wire.specs.VectorsExact.{vector_within}
use Rattle.mls_nodes.specs.declared.leaf.LeafNode.{LeafNode}
use Rattle.mls_nodes.specs.declared.required_capabilities.RequiredCapabilities.{RequiredCapabilities}
use Rattle.mls_tree.specs.Tree.{leaf_at}
use Rattle.mls_hash.specs.SuiteHash.{hash_of, ref_hash_input}
use Rattle.mls_check.specs.DistinctKeys.{has_distinct_keys}
use Rattle.mls_check.specs.LeafValidation.{LeavesAreValid, is_leaf_signed, member_fault}
use Rattle.mls_check.specs.Signatures.{VerifyFn}
use Rattle.mls_check.specs.declared.members.MemberFault.{MemberFault}
use Rattle.mls_msgs.specs.Layout.{commit, key_package, proposal, proposal_or_ref, update_path}
use Rattle.mls_msgs.specs.declared.authenticated.AuthenticatedParts.{AuthenticatedParts}
use Rattle.mls_msgs.specs.declared.framed_content.Content.{Content}
use Rattle.mls_msgs.specs.declared.framed_content.Content.TheVariants as contents
use Rattle.mls_msgs.specs.declared.framed_content.Sender.{Sender}
use Rattle.mls_msgs.specs.declared.framed_content.Sender.TheVariants as senders
use Rattle.mls_msgs.specs.declared.key_package.KeyPackage.{KeyPackage}
use Rattle.mls_msgs.specs.declared.proposal.Proposal.TheVariants as proposals
use Rattle.mls_msgs.specs.declared.proposal.ProposalOrRef.{ProposalOrRef}
use Rattle.mls_msgs.specs.declared.proposal.ProposalOrRef.TheVariants as entries
use Rattle.mls_apply.specs.AppliedList.{AppliedTree, outcome}
use Rattle.mls_apply.specs.ListRules.{has_no_remove_of, has_no_update_by, have_distinct_targets, is_reinit_alone, needs_path}
use Rattle.mls_apply.specs.PackageRefs.{package_ref, package_reference_label}
use Rattle.mls_apply.specs.ProposalRules.{all_inline, fits_group, is_from_key_package, is_package_signed, is_valid_add}
use Rattle.mls_apply.specs.PskProposals.{have_distinct_psks}
use Rattle.mls_apply.specs.RuleLists.{Rule, rule, first_failing}
use Rattle.mls_apply.specs.declared.list_item.ListItem.{ListItem}
use Rattle.mls_apply.specs.declared.refusal.Refusal.{Refusal}
use Rattle.mls_apply.specs.declared.refusal.Refusal.TheVariants as refusals
use Rattle.mls_apply.proofs.Encodings.{both_encoded, left_encoded, mapped, taken_out}
use Rattle.mls_follow.specs.CoveredLogs.{all_good}
use Rattle.mls_follow.specs.LoneAdd.{lone_add_rules, lone_member_rules, with_client}
use Rattle.mls_follow.specs.MessageRules.{commit_rules, committer_tree, committer_tree_rules, content_rules, frame_rules, is_frame_signed, leaf_rules, member_rules, sender_rules}
use Rattle.mls_follow.specs.State.{State, last_epoch}
use Rattle.mls_follow.specs.declared.lone_add.AddFault.TheVariants as adds
use Rattle.mls_follow.proofs.LoneAdding.{lone_outcome}
use Rattle.mls_examine.specs.AddablePackages.{fit_rules, unfit_add_rules}
use Rattle.mls_examine.specs.OneAddCommits.{commit_refusal_of, unsigned_refusal}
use Rattle.mls_examine.specs.Packages.{is_signed}
use Rattle.mls_examine.specs.declared.unfit.Unfit.{Unfit}
use Rattle.mls_examine.specs.declared.unfit.Unfit.TheVariants as unfit
use Rattle.mls_examine.proofs.OneAddLeaves.{same_fault, signed_anywhere}
use Rattle.mls_examine.proofs.OneAddStrict.{lone_commit}
use Rattle.mls_examine.proofs.Signable.{IsWithin, within_left, within_right}

-- ---- a commit that is encoded has a KeyPackage with a KeyPackageRef

module _ (k : KeyPackage) where
  abbrev entry : ProposalOrRef
  entry = entries.Proposal (proposals.Add k)

  listed : IsSome (commit (lone_commit k)) → IsWithin (items proposal_or_ref (entry ∷ []))
  unfolding commit list
  listed there =
      let front = taken_out (sized (items proposal_or_ref (entry ∷ []))) (left_encoded (sized (items proposal_or_ref (entry ∷ []))) (optional update_path None) there) in
      let body = sized_parts (items proposal_or_ref (entry ∷ [])) front.0 front.1 in
      record { bytes = body.0; is = body.1; within = vector_within body.0 front.0 body.2 }

  packed : IsWithin (items proposal_or_ref (entry ∷ [])) → IsWithin (key_package k)
  unfolding items proposal_or_ref proposal
  packed h =
      within_right (number w16 1) (key_package k)
      (within_right (number w8 1) (number w16 1 ⊕ key_package k) (within_left (number w8 1 ⊕ number w16 1 ⊕ key_package k) (Some []) h))

  with_reference : IsWithin (key_package k) → is_some (package_ref k) ≡ true
  with_reference h =
      let text = both_encoded (vector package_reference_label) (vector h.bytes) (vector_some package_reference_label (omega arith)) (vector_some h.bytes h.within) in
      rw (h.is) (mapped (hash_of k.cipher_suite) (ref_hash_input package_reference_label h.bytes) text)

  pub is_referenced : IsSome (commit (lone_commit k)) → is_some (package_ref k) ≡ true
  is_referenced there = with_reference (packed (listed there))

-- ---- the Add

module _ (G : VerifyFn) (s : State) (k : KeyPackage) where
  abbrev leaf_signed : Bool
  leaf_signed = is_leaf_signed G s.context.cipher_suite s.context.group_id 0 k.leaf_node

  abbrev own_signed : Bool
  own_signed = is_package_signed G s.context.cipher_suite k

  -- what it says that a KeyPackage fits
  pub record FitsAdd : Type 0 where
    pub suite : k.cipher_suite ≡ s.context.cipher_suite
    pub source : is_from_key_package k.leaf_node.source ≡ true

  pub fits_add : fits_group s.context k ≡ true → FitsAdd
  unfolding fits_group
  fits_add h =
      let version = k.version == s.context.version in
      let suite = k.cipher_suite == s.context.cipher_suite in
      let source = is_from_key_package k.leaf_node.source in
      let all = and_parts (version && suite && source) (not (bytes_eq k.init_key k.leaf_node.encryption_key)) h in
      let three = and_parts (version && suite) source all.0 in
      let two = and_parts version suite three.0 in
      record { suite = (Decides-eqb k.cipher_suite s.context.cipher_suite).0 two.1; source = three.1 }

  -- the signatures are those by the suite of the group
  leaf_alike : FitsAdd → is_leaf_signed G k.cipher_suite [] 0 k.leaf_node ≡ leaf_signed
  leaf_alike f =
      ap (λ n. is_leaf_signed G n [] 0 k.leaf_node) f.suite ∙ sym (signed_anywhere G s.context.cipher_suite s.context.group_id 0 k.leaf_node f.source)

  own_alike : FitsAdd → is_package_signed G k.cipher_suite k ≡ own_signed
  own_alike f = ap (λ n. is_package_signed G n k) f.suite

  pub signed_if_valid : is_valid_add G s.context k ≡ true → is_signed G k ≡ true
  unfolding is_valid_add
  signed_if_valid h =
      let all = and_parts (fits_group s.context k && leaf_signed) own_signed h in
      let front = and_parts (fits_group s.context k) leaf_signed all.0 in
      let f = fits_add front.0 in
      and_from (is_leaf_signed G k.cipher_suite [] 0 k.leaf_node) (is_package_signed G k.cipher_suite k) (leaf_alike f ∙ front.1) (own_alike f ∙ all.1)

  module _ (signed : is_signed G k ≡ true) where
    signatures : (is_leaf_signed G k.cipher_suite [] 0 k.leaf_node ≡ true) × (is_package_signed G k.cipher_suite k ≡ true)
    signatures = and_parts (is_leaf_signed G k.cipher_suite [] 0 k.leaf_node) (is_package_signed G k.cipher_suite k) signed

    pub valid_is_fit : is_valid_add G s.context k ≡ fits_group s.context k
    unfolding is_valid_add
    valid_is_fit = go (fits_group s.context k) refl
      where
        go : (b : Bool) → fits_group s.context k ≡ b → (b && leaf_signed && own_signed) ≡ b
        go false e = refl
        go true e =
            let f = fits_add e in
            and_from leaf_signed own_signed (sym (leaf_alike f) ∙ signatures.0) (sym (own_alike f) ∙ signatures.1)

    pub leaf_is_signed : FitsAdd → is_leaf_signed G s.context.cipher_suite [] 0 k.leaf_node ≡ true
    leaf_is_signed f = ap (λ n. is_leaf_signed G n [] 0 k.leaf_node) (sym f.suite) ∙ signatures.0

-- ---- the tree after the Add

module _ (G : VerifyFn) (s : State) (required : RequiredCapabilities) (k : KeyPackage) where
  two_rules : (distinct : Bool) (o : Option MemberFault) → first_failing (rule refusals.KeyRepeated distinct ∷ member_rules o)
      ≡ option_map commit_refusal_of (first_failing (unfit_add_rules (rule adds.KeyRepeated distinct ∷ lone_member_rules o)))
  two_rules false o = refl
  two_rules true None = refl
  two_rules true (Some f) = refl

  abbrev tree_refusal : ℕ → Option AppliedTree → Option Refusal
  tree_refusal i o = first_failing (committer_tree_rules G s required None (option_and_then (committer_tree (senders.Member i)) o))

  abbrev tree_fault : Option AppliedTree → Option Unfit
  tree_fault o = first_failing (unfit_add_rules (lone_add_rules s required o))

  module _ (members : LeavesAreValid G s.context.cipher_suite s.context.group_id required s.tree) (source : is_from_key_package k.leaf_node.source ≡ true)
      (signed : is_leaf_signed G s.context.cipher_suite [] 0 k.leaf_node ≡ true) where
    tree_alike : (i : ℕ) (o : Option AppliedTree) → with_client s k ≡ o → tree_refusal i o ≡ option_map commit_refusal_of (tree_fault o)
    tree_alike i None is = refl
    tree_alike i (Some g) is =
        ap (λ (m : Option MemberFault). first_failing (rule refusals.KeyRepeated (has_distinct_keys g.tree) ∷ member_rules m))
        (same_fault k.leaf_node s.tree g is G s.context.cipher_suite s.context.group_id required members source signed)
        ∙ two_rules (has_distinct_keys g.tree) (member_fault all_good s.context.cipher_suite s.context.group_id required g.tree)

-- ---- all of them

module _ (G : VerifyFn) (s : State) (required : RequiredCapabilities) (k : KeyPackage) where
  abbrev commit_refusal : ℕ → Option Refusal
  commit_refusal i = first_failing (commit_rules G s required i (lone_commit k))

  abbrev pub item : ℕ → ListItem
  item i = record { sender = senders.Member i; proposal = proposals.Add k }

  commit_word : (i : ℕ) → commit_refusal i
      ≡ (if nat_lt s.context.epoch last_epoch
      then (if is_valid_add G s.context k && true then tree_refusal G s required k i (outcome (item i ∷ []) s.tree) else Some refusals.AddInvalid)
      else Some refusals.LastEpoch)
  unfolding all_inline has_no_update_by has_no_remove_of have_distinct_targets have_distinct_psks is_reinit_alone needs_path
  commit_word i = refl

  module _ (a : AuthenticatedParts) (i : ℕ) (x : LeafNode) (sender_is : a.content.sender ≡ senders.Member i) (content_is : a.content.content ≡ contents.Commit (lone_commit k))
      (group : a.content.group_id ≡ s.context.group_id) (epoch : a.content.epoch ≡ s.context.epoch) (member : leaf_at 0 s.tree i ≡ Some x)
      (signed : is_frame_signed G s.context x.signature_key a ≡ true) where
    sent : sender_rules G s required a a.content.sender
        ≡ rule refusals.BadSignature (is_frame_signed G s.context x.signature_key a) ∷ commit_rules G s required i (lone_commit k)
    sent =
        ap (λ (sender : Sender). sender_rules G s required a sender) sender_is ∙ ap (λ (o : Option LeafNode). leaf_rules G s required a i o) member
        ∙ ap (λ (content : Content). content_rules G s required a i x content) content_is

    frame_word : first_failing (frame_rules G s required a) ≡ (if not s.ended then commit_refusal i else Some refusals.GroupOver)
    frame_word =
        let rest = first_failing (rule refusals.GroupOver (not s.ended) ∷ sender_rules G s required a a.content.sender) in
        ap (λ (b : Bool). if b then (if a.content.epoch == s.context.epoch then rest else Some refusals.WrongEpoch) else Some refusals.WrongGroup)
        ((bytes_eq-Decides a.content.group_id s.context.group_id).1 group)
        ∙ ap (λ (b : Bool). if b then rest else Some refusals.WrongEpoch) (eq-eqb a.content.epoch s.context.epoch epoch)
        ∙ ap (λ (rs : List (Rule Refusal)). if not s.ended then first_failing rs else Some refusals.GroupOver) sent
        ∙ ap (λ (b : Bool). if not s.ended then (if b then commit_refusal i else Some refusals.BadSignature) else Some refusals.GroupOver) signed

    profile_word : first_failing (frame_rules G s required a)
        ≡ (if not s.ended
        then (if nat_lt s.context.epoch last_epoch
        then (if is_valid_add G s.context k then tree_refusal G s required k i (with_client s k) else Some refusals.AddInvalid)
        else Some refusals.LastEpoch)
        else Some refusals.GroupOver)
    profile_word =
        frame_word ∙ ap (λ (o : Option Refusal). if not s.ended then o else Some refusals.GroupOver) (commit_word i)
        ∙ ap (λ (b : Bool). if not s.ended
        then (if nat_lt s.context.epoch last_epoch then (if b then tree_refusal G s required k i (outcome (item i ∷ []) s.tree) else Some refusals.AddInvalid) else Some refusals.LastEpoch)
        else Some refusals.GroupOver) (and_true (is_valid_add G s.context k))
        ∙ ap (λ (o : Option AppliedTree). if not s.ended
        then (if nat_lt s.context.epoch last_epoch then (if is_valid_add G s.context k then tree_refusal G s required k i o else Some refusals.AddInvalid) else Some refusals.LastEpoch)
        else Some refusals.GroupOver) (lone_outcome (senders.Member i) k s.tree)
      where
        and_true : (b : Bool) → (b && true) ≡ b
        and_true true = refl
        and_true false = refl

    -- if it is accepted, the Add is valid
    pub accepted_add : first_failing (frame_rules G s required a) ≡ None → is_valid_add G s.context k ≡ true
    accepted_add h = go (not s.ended) (nat_lt s.context.epoch last_epoch) (is_valid_add G s.context k) (sym profile_word ∙ h)
      where
        go : (goes_on later valid : Bool)
            → (if goes_on
            then (if later then (if valid then tree_refusal G s required k i (with_client s k) else Some refusals.AddInvalid) else Some refusals.LastEpoch)
            else Some refusals.GroupOver) ≡ None → valid ≡ true
        go false later valid e = absurd (none-some refusals.GroupOver (sym e))
        go true false valid e = absurd (none-some refusals.LastEpoch (sym e))
        go true true false e = absurd (none-some refusals.AddInvalid (sym e))
        go true true true e = refl

    -- if a signature is not good, the Add is not valid
    pub refused_add : is_signed G k ≡ false → first_failing (frame_rules G s required a) ≡ Some (unsigned_refusal s)
    refused_add h =
        profile_word ∙ go s.ended (nat_lt s.context.epoch last_epoch) (is_valid_add G s.context k)
        (λ valid. (let bad = sym h ∙ signed_if_valid G s k valid in absurd cc))
      where
        go : (ended later valid : Bool) → (valid ≡ true → ⊥)
            → (if not ended
            then (if later then (if valid then tree_refusal G s required k i (with_client s k) else Some refusals.AddInvalid) else Some refusals.LastEpoch)
            else Some refusals.GroupOver)
            ≡ Some (if ended then refusals.GroupOver else if later then refusals.AddInvalid else refusals.LastEpoch)
        go true later valid other = refl
        go false false valid other = refl
        go false true false other = refl
        go false true true other = absurd (other refl)

    module _ (members : LeavesAreValid G s.context.cipher_suite s.context.group_id required s.tree) (own : is_signed G k ≡ true) where
      -- part by part
      front_word : (goes_on later version suite source init_key : Bool) (x : Option Refusal) (y : Option Unfit)
          → ((version && suite && source && init_key) ≡ true → x ≡ option_map commit_refusal_of y)
          → (if goes_on
          then (if later then (if version && suite && source && init_key then x else Some refusals.AddInvalid) else Some refusals.LastEpoch)
          else Some refusals.GroupOver)
          ≡ option_map commit_refusal_of (if goes_on
          then (if later
          then (if version then (if suite then (if source then (if init_key then y else Some unfit.InitKeyReused) else Some unfit.LeafSource) else Some unfit.WrongSuite) else Some unfit.WrongVersion)
          else Some unfit.LastEpoch)
          else Some unfit.GroupOver)
      front_word false later version suite source init_key x y h = refl
      front_word true false version suite source init_key x y h = refl
      front_word true true false suite source init_key x y h = refl
      front_word true true true false source init_key x y h = refl
      front_word true true true true false init_key x y h = refl
      front_word true true true true true false x y h = refl
      front_word true true true true true true x y h = h refl

      pub profile_alike : first_failing (frame_rules G s required a)
          ≡ option_map commit_refusal_of (first_failing (fit_rules s k ++ unfit_add_rules (lone_add_rules s required (with_client s k))))
      unfolding fits_group
      profile_alike =
          profile_word
          ∙ ap (λ (b : Bool). if not s.ended
          then (if nat_lt s.context.epoch last_epoch then (if b then tree_refusal G s required k i (with_client s k) else Some refusals.AddInvalid) else Some refusals.LastEpoch)
          else Some refusals.GroupOver) (valid_is_fit G s k own)
          ∙ front_word (not s.ended) (nat_lt s.context.epoch last_epoch) (k.version == s.context.version) (k.cipher_suite == s.context.cipher_suite)
          (is_from_key_package k.leaf_node.source) (not (bytes_eq k.init_key k.leaf_node.encryption_key))
          (tree_refusal G s required k i (with_client s k)) (tree_fault G s required k (with_client s k))
          (λ fits. (let f = fits_add G s k fits in
          tree_alike G s required k members f.source (leaf_is_signed G s k own f) i (with_client s k) refl))
