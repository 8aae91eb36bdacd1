-- What the rules say of a KeyPackage by which a group can add a client.
use Rattle.std.proofs.Common.{◌≡◌, ℕ, ◌+◌, List, [], ◌∷◌, ◌++◌, Bool, true, Option, Some, None, refl}
use Rattle.std.specs.Prelude.{not, is_some, nat_le, length}
use Rattle.std.specs.Str.{bytes_eq}
use Rattle.std.proofs.lemmas.Bool.Decides.{Decides-eqb}
use Rattle.mls_nodes.specs.Limits.{leaf_limit}
use Rattle.mls_nodes.specs.declared.leaf.LeafNode.{LeafNode}
use Rattle.mls_nodes.specs.declared.required_capabilities.RequiredCapabilities.{RequiredCapabilities}
use Rattle.mls_tree.specs.Tree.{Tree, leaf_at, member_count}
use Rattle.mls_check.specs.DistinctKeys.{has_distinct_keys}
use Rattle.mls_check.specs.LeafValidation.{LeavesAreValid, credential_type, member_fault, member_rule, supports_credential, supports_own_extensions, supports_used_credentials}
use Rattle.mls_check.specs.declared.members.MemberFault.{MemberFault}
use Rattle.mls_check.proofs.FirstFault.{members-faultless}
use Rattle.mls_check.proofs.Leaves.{all_leaves-at}
use Rattle.mls_msgs.specs.declared.key_package.KeyPackage.{KeyPackage}
use Rattle.mls_msgs.specs.declared.strict_rule.StrictRule.{StrictRule}
use Rattle.mls_apply.specs.AppliedList.{AppliedTree, after_adds, with_members}
use Rattle.mls_apply.specs.OutlineInternal.{AreAt}
use Rattle.mls_apply.specs.PackageRefs.{package_ref}
use Rattle.mls_apply.specs.ProposalRules.{is_from_key_package}
use Rattle.mls_apply.specs.RuleLists.{rule}
use Rattle.mls_apply.proofs.AddedLeaves.{members_at}
use Rattle.mls_apply.proofs.RuleLists.{AreKept, passed, passed_both, refused}
use Rattle.mls_apply.proofs.SoundOutcomes.{where_so}
use Rattle.mls_follow.specs.CoveredLogs.{all_good}
use Rattle.mls_follow.specs.LoneAdd.{lone_add_rules, lone_member_rules, with_client}
use Rattle.mls_follow.specs.State.{State}
use Rattle.mls_examine.specs.AddablePackages.{addable_fault, fit_rules, form_rules_in, group_package_refusal, unfit_add_rules}
use Rattle.mls_examine.specs.Packages.{strict_rules}
use Rattle.mls_examine.specs.declared.unfit.Unfit.TheVariants as unfit

-- ---- the last rules

-- what a list of the last rules says
form_parts : (o : Option StrictRule) (b : Bool) → AreKept (strict_rules o ++ rule unfit.Malformed b ∷ []) → (o ≡ None) × (b ≡ true)
form_parts None b h = (refl, (passed h).0)
form_parts (Some r) b h = let bad = (passed h).0 in absurd cc

-- ---- the tree after the Add

-- a fault of the leaf nodes fails their rule
no_member_fault : (o : Option MemberFault) → AreKept (unfit_add_rules (lone_member_rules o)) → o ≡ None
no_member_fault None h = refl
no_member_fault (Some f) h = absurd (refused h)

-- the tree in which the rules hold
pub record FitTree (s : State) (required : RequiredCapabilities) (k : KeyPackage) : Type 0 where
  pub tree : AppliedTree
  pub is : with_client s k ≡ Some tree
  pub distinct : has_distinct_keys tree.tree ≡ true
  pub members : LeavesAreValid all_good s.context.cipher_suite s.context.group_id required tree.tree

pub fit_tree : (s : State) (required : RequiredCapabilities) (k : KeyPackage) (o : Option AppliedTree) → with_client s k ≡ o
    → AreKept (unfit_add_rules (lone_add_rules s required o)) → FitTree s required k
fit_tree s required k None is h = absurd (refused h)
fit_tree s required k (Some g) is h =
    let both = passed h in
    let none = no_member_fault (member_fault all_good s.context.cipher_suite s.context.group_id required g.tree) both.1 in
    record {
      tree = g;
      is = is;
      distinct = both.0;
      members = (members-faultless all_good s.context.cipher_suite s.context.group_id required g.tree).1 none;
    }

-- the leaf of the client
record HasClient (t : Tree) (x : LeafNode) : Type 0 where
  pub index : ℕ
  pub at : leaf_at 0 t index ≡ Some x

first_at : (t : Tree) (x : LeafNode) (js : List ℕ) → AreAt t (x ∷ []) js → HasClient t x
first_at t x [] h = absurd h
first_at t x (j ∷ js) h = record { index = j; at = h.0 }

client_at : (x : LeafNode) (t : Tree) (g : AppliedTree) → with_members (x ∷ []) t ≡ Some g → HasClient g.tree x
unfolding with_members
client_at x t g e =
    first_at g.tree x g.added
    (members_at (x ∷ []) t g (where_so (nat_le (member_count t + length (x ∷ [])) leaf_limit) (after_adds (x ∷ []) t) g e))

module _ (suite : ℕ) (group_id : List ℕ) (required : RequiredCapabilities) (t : Tree) (x : LeafNode) (h : HasClient t x)
    (members : LeavesAreValid all_good suite group_id required t) where
  own_supported : supports_own_extensions x ≡ true
  unfolding member_rule
  own_supported = all_leaves-at (member_rule all_good suite group_id required t 1) 0 t (members.rules 1) h.index x h.at

  used_supported : supports_used_credentials t x ≡ true
  unfolding member_rule
  used_supported = all_leaves-at (member_rule all_good suite group_id required t 3) 0 t (members.rules 3) h.index x h.at

  credential_supported : supports_credential x (credential_type x.credential) ≡ true
  unfolding supports_used_credentials
  credential_supported =
      all_leaves-at (λ _ other. supports_credential x (credential_type other.credential)) 0 t used_supported h.index x h.at

-- ---- all of the rules

pub record AddableParts (s : State) (required : RequiredCapabilities) (k : KeyPackage) : Type 0 where
  pub version : k.version ≡ s.context.version
  pub suite : k.cipher_suite ≡ s.context.cipher_suite
  pub source : is_from_key_package k.leaf_node.source ≡ true
  pub init_key : not (bytes_eq k.init_key k.leaf_node.encryption_key) ≡ true
  pub own : supports_own_extensions k.leaf_node ≡ true
  pub used : supports_credential k.leaf_node (credential_type k.leaf_node.credential) ≡ true
  pub strict : group_package_refusal s.rules s.context k ≡ None
  pub encoded : is_some (package_ref k) ≡ true

module _ (s : State) (required : RequiredCapabilities) (k : KeyPackage) (none : addable_fault s required k ≡ None) where
  kept : AreKept (fit_rules s k) × AreKept (unfit_add_rules (lone_add_rules s required (with_client s k)) ++ form_rules_in s k)
  unfolding addable_fault
  kept = passed_both (fit_rules s k) (unfit_add_rules (lone_add_rules s required (with_client s k)) ++ form_rules_in s k) (record { none = none })

  later : AreKept (unfit_add_rules (lone_add_rules s required (with_client s k))) × AreKept (form_rules_in s k)
  later = passed_both (unfit_add_rules (lone_add_rules s required (with_client s k))) (form_rules_in s k) kept.1

  pub addable_tree : FitTree s required k
  addable_tree = fit_tree s required k (with_client s k) refl later.0

  pub addable_parts : AddableParts s required k
  addable_parts =
      let version = passed (passed (passed kept.0).1).1 in
      let suite = passed version.1 in
      let source = passed suite.1 in
      let init_key = passed source.1 in
      let form = form_parts (group_package_refusal s.rules s.context k) (is_some (package_ref k)) later.1 in
      let g = addable_tree in
      let client = client_at k.leaf_node s.tree g.tree g.is in
      record {
        version = (Decides-eqb k.version s.context.version).0 version.0;
        suite = (Decides-eqb k.cipher_suite s.context.cipher_suite).0 suite.0;
        source = source.0;
        init_key = init_key.0;
        own = own_supported s.context.cipher_suite s.context.group_id required g.tree.tree k.leaf_node client g.members;
        used = credential_supported s.context.cipher_suite s.context.group_id required g.tree.tree k.leaf_node client g.members;
        strict = form.0;
        encoded = form.1;
      }
