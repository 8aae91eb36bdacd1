-- The leaves of the tree after the Add of one client: its own, and those that were there before.
use Rattle.std.proofs.Common.{◌≡◌, ◌≢◌, ◌∙◌, ◌⊎◌, ℕ, ◌+◌, List, [], ◌∷◌, length, Bool, true, false, Option, Some, refl, sym, ap, subst, inl, inr}
use Rattle.std.specs.Prelude.{nat_le, codes}
use Rattle.std.proofs.lemmas.Bool.{cases_eq}
use Rattle.std.proofs.lemmas.Option.{same_Some}
use Rattle.mls_wire.specs.Encoding.{◌⊕◌}
use Rattle.mls_nodes.specs.Layout.{unsigned_leaf}
use Rattle.mls_nodes.specs.LeafNodeTBS.{leaf_tbs}
use Rattle.mls_nodes.specs.Limits.{leaf_limit}
use Rattle.mls_nodes.specs.declared.extension.Extension.{Extension}
use Rattle.mls_nodes.specs.declared.leaf.LeafNode.{LeafNode}
use Rattle.mls_nodes.specs.declared.required_capabilities.RequiredCapabilities.{RequiredCapabilities}
use Rattle.mls_tree.specs.Tree.{Tree, leaf_at, member_count}
use Rattle.mls_tree.specs.TreeOperations.{add, added_leaf}
use Rattle.mls_check.specs.LeafValidation.{LeavesAreValid, is_leaf_signed, member_fault, member_rule}
use Rattle.mls_check.specs.Signatures.{VerifyFn, is_signed_text}
use Rattle.mls_check.proofs.Leaves.{all_leaves-at, all_leaves-from}
use Rattle.mls_strict.specs.LeafForms.{supports_all}
use Rattle.mls_apply.specs.AppliedList.{AppliedTree, after_adds, applied_tree, with_members}
use Rattle.mls_apply.specs.ProposalRules.{is_from_key_package}
use Rattle.mls_apply.proofs.AddedLeaves.{leaf_beside, one_added}
use Rattle.mls_apply.proofs.RepeatedAdds.{added-at}
use Rattle.mls_apply.proofs.SoundOutcomes.{where_so}
use Rattle.mls_follow.specs.CoveredLogs.{all_good}
use Rattle.mls_follow.specs.StrictRules.{supports_extensions}
use Rattle.mls_follow.proofs.SignatureAgreement.{fault_alike, text_stays}
use Rattle.mls_examine.proofs.Signable.{suffix_is_empty}

-- ---- what is signed

-- what the leaf node of a KeyPackage signs is the same at each leaf of each group
same_tbs : (x : LeafNode) (group_id : List ℕ) (i : ℕ) → is_from_key_package x.source ≡ true → leaf_tbs x group_id i ≡ leaf_tbs x [] 0
unfolding leaf_tbs
same_tbs x group_id i source =
    ap (λ (s : Option (List ℕ)). unsigned_leaf x ⊕ s) (suffix_is_empty x.source group_id i source ∙ sym (suffix_is_empty x.source [] 0 source))

pub signed_anywhere : (G : VerifyFn) (suite : ℕ) (group_id : List ℕ) (i : ℕ) (x : LeafNode) → is_from_key_package x.source ≡ true
    → is_leaf_signed G suite group_id i x ≡ is_leaf_signed G suite [] 0 x
unfolding is_leaf_signed
signed_anywhere G suite group_id i x source =
    ap (λ (o : Option (List ℕ)). is_signed_text G suite x.signature_key (codes "MLS 1.0 LeafNodeTBS") o x.signature) (same_tbs x group_id i source)

signed_by_all : (G : VerifyFn) (suite : ℕ) (group_id : List ℕ) (i : ℕ) (x : LeafNode) → is_leaf_signed G suite group_id i x ≡ true
    → is_leaf_signed all_good suite group_id i x ≡ true
unfolding is_leaf_signed
signed_by_all G suite group_id i x h =
    text_stays G all_good (λ _ _ _ _ _. refl) suite x.signature_key (codes "MLS 1.0 LeafNodeTBS") (leaf_tbs x group_id i) x.signature h

fifth_rule : (G : VerifyFn) (suite : ℕ) (group_id : List ℕ) (required : RequiredCapabilities) (t : Tree) (i : ℕ) (x : LeafNode)
    → member_rule G suite group_id required t 5 i x ≡ true → is_leaf_signed G suite group_id i x ≡ true
unfolding member_rule
fifth_rule G suite group_id required t i x h = h

-- ---- the leaves

module _ (x : LeafNode) (t : Tree) (g : AppliedTree) (is : with_members (x ∷ []) t ≡ Some g) where
  made : after_adds (x ∷ []) t ≡ Some g
  unfolding with_members
  made = where_so (nat_le (member_count t + length (x ∷ [])) leaf_limit) (after_adds (x ∷ []) t) g is

  tree_is : add t x ≡ g.tree
  unfolding after_adds
  tree_is =
      let m = one_added t x [] g made in
      ap (λ (v : AppliedTree). v.tree) (same_Some (applied_tree (add t x) []) m.0 m.1) ∙ m.2

  client_there : leaf_at 0 g.tree (added_leaf t) ≡ Some x
  client_there = subst (λ (u : Tree). leaf_at 0 u (added_leaf t) ≡ Some x) tree_is (added-at t x).there

  other_there : (i : ℕ) → i ≢ added_leaf t → leaf_at 0 g.tree i ≡ leaf_at 0 t i
  other_there i away = subst (λ (u : Tree). leaf_at 0 u i ≡ leaf_at 0 t i) tree_is (leaf_beside t x i away)

  client_or_former : (i : ℕ) (y : LeafNode) → leaf_at 0 g.tree i ≡ Some y → (y ≡ x) ⊎ (leaf_at 0 t i ≡ Some y)
  client_or_former i y at =
      elim (cases_eq i (added_leaf t)) [
        | inl same ↦ inl (same_Some y x (sym at ∙ ap (leaf_at 0 g.tree) same ∙ client_there))
        | inr away ↦ inr (sym (other_there i away) ∙ at)
      ]

  -- the fault of the leaves is the same if each signature is good
  module _ (G : VerifyFn) (suite : ℕ) (group_id : List ℕ) (required : RequiredCapabilities) (members : LeavesAreValid G suite group_id required t)
      (source : is_from_key_package x.source ≡ true) (signed : is_leaf_signed G suite [] 0 x ≡ true) where
    signed_there : (i : ℕ) (y : LeafNode) → leaf_at 0 g.tree i ≡ Some y → is_leaf_signed G suite group_id i y ≡ true
    signed_there i y at =
        elim (client_or_former i y at) [
          | inl same ↦ ap (is_leaf_signed G suite group_id i) same ∙ signed_anywhere G suite group_id i x source ∙ signed
          | inr before ↦
              fifth_rule G suite group_id required t i y (all_leaves-at (member_rule G suite group_id required t 5) 0 t (members.rules 5) i y before)
        ]

    pub same_fault : member_fault G suite group_id required g.tree ≡ member_fault all_good suite group_id required g.tree
    same_fault =
        fault_alike G all_good suite group_id required g.tree
        (λ i y at. (let good = signed_there i y at in good ∙ sym (signed_by_all G suite group_id i y good)))

  -- the leaves support the types of extensions if the client does
  module _ (es : List Extension) (former : supports_extensions es t ≡ true) where
    all_support : supports_all es x ≡ true → supports_extensions es g.tree ≡ true
    all_support does =
        all_leaves-from (λ _ y. supports_all es y) 0 g.tree
        (λ i y from low at.
        elim (client_or_former i y at) [
          | inl same ↦ ap (supports_all es) same ∙ does
          | inr before ↦ all_leaves-at (λ _ y. supports_all es y) 0 t former i y before
        ])

    client_supports : supports_extensions es g.tree ≡ true → supports_all es x ≡ true
    client_supports all = all_leaves-at (λ _ y. supports_all es y) 0 g.tree all (added_leaf t) x client_there

    pub supported_by_client : supports_extensions es g.tree ≡ supports_all es x
    supported_by_client = go (supports_extensions es g.tree) (supports_all es x) refl refl
      where
        go : (a b : Bool) → supports_extensions es g.tree ≡ a → supports_all es x ≡ b → a ≡ b
        go true b p q = sym (sym q ∙ client_supports p)
        go false true p q = sym p ∙ all_support q
        go false false p q = refl
