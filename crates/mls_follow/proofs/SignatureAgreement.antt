-- What two meanings that answer wanted signatures alike say of leaves, key packages, frames and group infos, and of the
-- leaves of a tree as members.
use Rattle.std.proofs.Common.{◌≡◌, ◌≢◌, ◌∙◌, ℕ, ◌+◌, ◌<◌, ◌≤◌, List, [], ◌∷◌, Bool, true, false, Option, Some, None, refl, sym, ap, subst, inl, inr, arith}
use Rattle.std.specs.Prelude.{◌==◌, if◌then◌else◌, option_map, codes}
use Rattle.std.specs.List.{Contains}
use Rattle.std.proofs.lemmas.Bool.{cases_lt}
use Rattle.std.proofs.lemmas.List.Elements.{All-head}
use Rattle.mls_nodes.specs.declared.context.GroupContext.{GroupContext}
use Rattle.mls_nodes.specs.declared.leaf.LeafNode.{LeafNode}
use Rattle.mls_nodes.specs.declared.required_capabilities.RequiredCapabilities.{RequiredCapabilities}
use Rattle.mls_nodes.specs.LeafNodeTBS.{leaf_tbs}
use Rattle.mls_tree.specs.Tree.{Tree, leaf, branch, leaf_count, leaf_at}
use Rattle.mls_tree.specs.BlankLeaves.{first_of}
use Rattle.mls_check.specs.LeafValidation.{member_rule, is_leaf_signed, first_failing_leaf, first_fault, member_fault, LeavesAreValid, IsMemberFault, supports_own_extensions, supports_required, supports_used_credentials, has_unique_signature_key}
use Rattle.mls_check.specs.Signatures.{VerifyFn, Extends, sign_content, is_good, is_signed_text}
use Rattle.mls_check.specs.declared.members.MemberFault.{MemberFault}
use Rattle.mls_check.specs.declared.members.MemberFault.TheVariants.{ExtensionUnlisted, RequirementUnmet, CredentialUnsupported, SignatureKeyRepeated, LeafSignature, OutOfMemory}
use Rattle.mls_check.proofs.Elements.{contains-nil, contains-cons}
use Rattle.mls_check.proofs.FirstFault.{fault-first, members-faultless}
use Rattle.mls_check.proofs.Leaves.{leaf_at-here, leaf_at-leaf, leaf_at-left, leaf_at-right, all_leaves-at, all_leaves-from}
use Rattle.mls_msgs.specs.Tbs.{content_label, content_tbs, package_label, package_tbs, info_label, info_tbs}
use Rattle.mls_msgs.specs.declared.authenticated.AuthenticatedParts.{AuthenticatedParts}
use Rattle.mls_msgs.specs.declared.group_info.GroupInfo.{GroupInfo}
use Rattle.mls_msgs.specs.declared.key_package.KeyPackage.{KeyPackage}
use Rattle.mls_apply.specs.ProposalRules.{is_package_signed}
use Rattle.mls_follow.specs.MessageRules.{is_frame_signed}
use Rattle.mls_follow.specs.Start.{is_info_signed}
use Rattle.mls_signatures.specs.Agreement.{Agrees, AgreeOn}
use Rattle.mls_signatures.specs.SigningKeys.{signed_context}
use Rattle.mls_signatures.specs.SignaturesToVerify.{sign_content_signatures, labeled_signatures, leaf_signatures, package_signatures, framed_content_signatures, info_signatures, non_blank_leaf_signatures, tree_signatures, signatures_at}
use Rattle.mls_signatures.proofs.Agreement.{front, back}

module _ (G K : VerifyFn) where
  content_alike : (suite : ℕ) (key signature : List ℕ) (o : Option (List ℕ)) → AgreeOn G K (sign_content_signatures suite key signature o)
      → is_good G suite key signature o ≡ is_good K suite key signature o
  content_alike suite key signature None h = refl
  content_alike suite key signature (Some content) h =
      All-head (Agrees G K) (record { suite = suite; key = key; content = content; signature = signature }) [] h

  text_alike : (suite : ℕ) (key label : List ℕ) (o : Option (List ℕ)) (signature : List ℕ) → AgreeOn G K (labeled_signatures suite key label o signature)
      → is_signed_text G suite key label o signature ≡ is_signed_text K suite key label o signature
  text_alike suite key label None signature h = refl
  text_alike suite key label (Some tbs) signature h = content_alike suite key signature (sign_content label tbs) h

  pub leaf_alike : (suite : ℕ) (group_id : List ℕ) (i : ℕ) (x : LeafNode) → AgreeOn G K (leaf_signatures suite group_id i x)
      → is_leaf_signed G suite group_id i x ≡ is_leaf_signed K suite group_id i x
  unfolding is_leaf_signed
  leaf_alike suite group_id i x h = text_alike suite x.signature_key (codes "MLS 1.0 LeafNodeTBS") (leaf_tbs x group_id i) x.signature h

  pub package_alike : (suite : ℕ) (k : KeyPackage) → AgreeOn G K (package_signatures suite k) → is_package_signed G suite k ≡ is_package_signed K suite k
  unfolding is_package_signed
  package_alike suite k h = text_alike suite k.leaf_node.signature_key package_label (package_tbs k) k.signature h

  pub frame_alike : (context : GroupContext) (key : List ℕ) (a : AuthenticatedParts) → AgreeOn G K (framed_content_signatures context key a)
      → is_frame_signed G context key a ≡ is_frame_signed K context key a
  unfolding is_frame_signed
  frame_alike context key a h =
      text_alike context.cipher_suite key content_label (content_tbs a (signed_context context a.content.sender)) a.signature h

  pub info_alike : (info : GroupInfo) (x : LeafNode) → AgreeOn G K (info_signatures info (Some x)) → is_info_signed G info x ≡ is_info_signed K info x
  unfolding is_info_signed
  info_alike info x h = text_alike info.context.cipher_suite x.signature_key info_label (info_tbs info) info.signature h

  module _ (suite : ℕ) (group_id : List ℕ) where
    set_leaf : (i : ℕ) (o : Option LeafNode) (x : LeafNode) → o ≡ Some x → AgreeOn G K (non_blank_leaf_signatures suite group_id i o)
        → AgreeOn G K (leaf_signatures suite group_id i x)
    set_leaf i o x e h = subst (λ (v : Option LeafNode). AgreeOn G K (non_blank_leaf_signatures suite group_id i v)) e h

    -- each set leaf of a tree
    pub tree_leaf : (first : ℕ) (t : Tree) → AgreeOn G K (tree_signatures suite group_id first t) → (i : ℕ) (x : LeafNode) → leaf_at first t i ≡ Some x
        → AgreeOn G K (leaf_signatures suite group_id i x)
    tree_leaf first (leaf y) h i x e =
        let at = leaf_at-leaf first y i x e in
        subst (λ k. AgreeOn G K (leaf_signatures suite group_id k x)) (sym at.0) (set_leaf first y x at.1 h)
    tree_leaf first (branch l n r) h i x e =
        let left = tree_signatures suite group_id first l in
        let right = tree_signatures suite group_id (first + leaf_count l) r in
        elim (cases_lt i (first + leaf_count l)) [
          | inl low ↦ tree_leaf first l (front G K left right h) i x (sym (leaf_at-left first l n r i low) ∙ e)
          | inr from ↦ tree_leaf (first + leaf_count l) r (back G K left right h) i x (sym (leaf_at-right first l n r i from) ∙ e)
        ]

    -- each set leaf of a list
    pub listed_leaf : (t : Tree) (js : List ℕ) → AgreeOn G K (signatures_at suite group_id t js) → (j : ℕ) (x : LeafNode) → Contains js j → leaf_at 0 t j ≡ Some x
        → AgreeOn G K (leaf_signatures suite group_id j x)
    listed_leaf t [] h j x c e = absurd (contains-nil j c)
    listed_leaf t (k ∷ ks) h j x c e =
        let here = non_blank_leaf_signatures suite group_id k (leaf_at 0 t k) in
        let rest = signatures_at suite group_id t ks in
        elim (contains-cons k ks j c) [
          | inl same ↦
              set_leaf j (leaf_at 0 t j) x e
              (subst (λ m. AgreeOn G K (non_blank_leaf_signatures suite group_id m (leaf_at 0 t m))) same (front G K here rest h))
          | inr later ↦ listed_leaf t ks (back G K here rest h) j x later e
        ]

    -- ---- members

    module _ (required : RequiredCapabilities) (t : Tree) where
      -- they say the same of each set leaf
      abbrev pub SayAlike : Type 0
      SayAlike = (i : ℕ) (x : LeafNode) → leaf_at 0 t i ≡ Some x → is_leaf_signed G suite group_id i x ≡ is_leaf_signed K suite group_id i x

      rule_alike : (k i : ℕ) (x : LeafNode) → is_leaf_signed G suite group_id i x ≡ is_leaf_signed K suite group_id i x
          → member_rule G suite group_id required t k i x ≡ member_rule K suite group_id required t k i x
      unfolding member_rule
      rule_alike k i x e =
          ap (λ (b : Bool). if k == 1 then supports_own_extensions x
          else if k == 2 then supports_required required x
          else if k == 3 then supports_used_credentials t x
          else if k == 4 then has_unique_signature_key t i x
          else if k == 5 then b
          else true) e

-- tests that agree at each set leaf fail at the same one
module _ (test other : ℕ → LeafNode → Bool) where
  failing_alike : (first : ℕ) (t : Tree)
      → ((i : ℕ) (x : LeafNode) → first ≤ i → i < first + leaf_count t → leaf_at first t i ≡ Some x → test i x ≡ other i x)
      → first_failing_leaf test first t ≡ first_failing_leaf other first t
  failing_alike first (leaf None) h = refl
  failing_alike first (leaf (Some x)) h =
      ap (λ (b : Bool). if b then None else Some first) (h first x (omega arith) (omega arith) (leaf_at-here first (Some x)))
  failing_alike first (branch l n r) h =
      let a = failing_alike first l (λ i x from low e. h i x from (omega arith) (leaf_at-left first l n r i low ∙ e)) in
      let b = failing_alike (first + leaf_count l) r (λ i x from low e. h i x (omega arith) (omega arith) (leaf_at-right first l n r i from ∙ e)) in
      λ i. first_of (a i) (b i)

module _ (G K : VerifyFn) (suite : ℕ) (group_id : List ℕ) (required : RequiredCapabilities) (t : Tree) (h : SayAlike G K suite group_id required t) where
  rules_alike : (k : ℕ) → first_failing_leaf (member_rule G suite group_id required t k) 0 t ≡ first_failing_leaf (member_rule K suite group_id required t k) 0 t
  rules_alike k =
      failing_alike (member_rule G suite group_id required t k) (member_rule K suite group_id required t k) 0 t
      (λ i x from low e. rule_alike G K suite group_id required t k i x (h i x e))

  -- the fault of the leaves is the same
  pub fault_alike : member_fault G suite group_id required t ≡ member_fault K suite group_id required t
  unfolding member_fault
  fault_alike =
      let a = rules_alike 1 in let b = rules_alike 2 in let c = rules_alike 3 in let d = rules_alike 4 in let e = rules_alike 5 in
      λ i. first_fault (
      option_map ExtensionUnlisted (a i) ∷ option_map RequirementUnmet (b i) ∷ option_map CredentialUnsupported (c i) ∷
      option_map SignatureKeyRepeated (d i) ∷ option_map LeafSignature (e i) ∷ [])

  pub members_alike : LeavesAreValid G suite group_id required t → LeavesAreValid K suite group_id required t
  members_alike m =
      (members-faultless K suite group_id required t).1 (sym fault_alike ∙ (members-faultless G suite group_id required t).0 m)

  pub faults_alike : (f : MemberFault) → f ≢ OutOfMemory → IsMemberFault G suite group_id required t f → IsMemberFault K suite group_id required t f
  faults_alike f own m =
      (fault-first K suite group_id required t f own).1 (sym fault_alike ∙ (fault-first G suite group_id required t f own).0 m)

-- ---- a meaning that says good of more

module _ (G K : VerifyFn) (more : Extends G K) where
  content_stays : (suite : ℕ) (key signature : List ℕ) (o : Option (List ℕ)) → is_good G suite key signature o ≡ true → is_good K suite key signature o ≡ true
  content_stays suite key signature None e = e
  content_stays suite key signature (Some content) e = more suite key content signature e

  pub text_stays : (suite : ℕ) (key label : List ℕ) (o : Option (List ℕ)) (signature : List ℕ) → is_signed_text G suite key label o signature ≡ true
      → is_signed_text K suite key label o signature ≡ true
  text_stays suite key label None signature e = e
  text_stays suite key label (Some tbs) signature e = content_stays suite key signature (sign_content label tbs) e

  pub leaf_stays : (suite : ℕ) (group_id : List ℕ) (i : ℕ) (x : LeafNode) → is_leaf_signed G suite group_id i x ≡ true → is_leaf_signed K suite group_id i x ≡ true
  unfolding is_leaf_signed
  leaf_stays suite group_id i x e = text_stays suite x.signature_key (codes "MLS 1.0 LeafNodeTBS") (leaf_tbs x group_id i) x.signature e

  else_stays : (b x u v : Bool) → (u ≡ true → v ≡ true) → (if b then x else u) ≡ true → (if b then x else v) ≡ true
  else_stays true x u v f e = e
  else_stays false x u v f e = f e

  then_stays : (b u v : Bool) → (u ≡ true → v ≡ true) → (if b then u else true) ≡ true → (if b then v else true) ≡ true
  then_stays true u v f e = f e
  then_stays false u v f e = e

  rule_stays : (suite : ℕ) (group_id : List ℕ) (required : RequiredCapabilities) (t : Tree) (k i : ℕ) (x : LeafNode)
      → member_rule G suite group_id required t k i x ≡ true → member_rule K suite group_id required t k i x ≡ true
  unfolding member_rule
  rule_stays suite group_id required t k i x e =
      let signed_G = is_leaf_signed G suite group_id i x in
      let signed_K = is_leaf_signed K suite group_id i x in
      let five_G = if k == 5 then signed_G else true in
      let five_K = if k == 5 then signed_K else true in
      let four_G = if k == 4 then has_unique_signature_key t i x else five_G in
      let four_K = if k == 4 then has_unique_signature_key t i x else five_K in
      let three_G = if k == 3 then supports_used_credentials t x else four_G in
      let three_K = if k == 3 then supports_used_credentials t x else four_K in
      let two_G = if k == 2 then supports_required required x else three_G in
      let two_K = if k == 2 then supports_required required x else three_K in
      else_stays (k == 1) (supports_own_extensions x) two_G two_K
      (else_stays (k == 2) (supports_required required x) three_G three_K
      (else_stays (k == 3) (supports_used_credentials t x) four_G four_K
      (else_stays (k == 4) (has_unique_signature_key t i x) five_G five_K
      (then_stays (k == 5) signed_G signed_K (leaf_stays suite group_id i x))))) e

pub members_stay : (G K : VerifyFn) (suite : ℕ) (group_id : List ℕ) (required : RequiredCapabilities) (t : Tree) → Extends G K
    → LeavesAreValid G suite group_id required t → LeavesAreValid K suite group_id required t
members_stay G K suite group_id required t more m = record {
  rules = λ k.
      all_leaves-from (member_rule K suite group_id required t k) 0 t
      (λ i x from low e.
      rule_stays G K more suite group_id required t k i x (all_leaves-at (member_rule G suite group_id required t k) 0 t (m.rules k) i x e));
}
