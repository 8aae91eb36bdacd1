-- The tree after the Add of a client, and what is found of it.
use Rattle.std.proofs.Common.{◌≡◌, ◌≢◌, ◌∙◌, ℕ, List, [], ◌∷◌, true, false, Option, Some, None, refl, ap}
use Rattle.mls_nodes.specs.declared.context.GroupContext.{GroupContext}
use Rattle.mls_nodes.specs.declared.required_capabilities.RequiredCapabilities.{RequiredCapabilities}
use Rattle.mls_tree.specs.Tree.{Tree}
use Rattle.mls_check.specs.DistinctKeys.{has_distinct_keys}
use Rattle.mls_check.specs.LeafValidation.{LeavesAreValid, IsMemberFault, member_fault}
use Rattle.mls_check.specs.Signatures.{VerifyFn}
use Rattle.mls_check.specs.declared.members.MemberFault.{MemberFault}
use Rattle.mls_check.specs.declared.members.MemberFault.TheVariants as members
use Rattle.mls_check.proofs.FirstFault.{fault-first, members-faultless}
use Rattle.mls_msgs.specs.declared.framed_content.Sender.{Sender}
use Rattle.mls_msgs.specs.declared.key_package.KeyPackage.{KeyPackage}
use Rattle.mls_msgs.specs.declared.proposal.Proposal.TheVariants.{Add}
use Rattle.mls_apply.specs.AppliedList.{AppliedTree, after_removes, after_updates, applied_tree, new_members, outcome, with_members}
use Rattle.mls_apply.specs.RuleLists.{first_failing}
use Rattle.mls_apply.specs.StagedInternal.{SatisfiesTreeRules}
use Rattle.mls_follow.specs.CommitTree.{in_context}
use Rattle.mls_follow.specs.CoveredLogs.{all_good}
use Rattle.mls_follow.specs.FollowerInvariant.{HasUniqueKeysAndValidLeaves}
use Rattle.mls_follow.specs.GroupModel.{group_state}
use Rattle.mls_follow.specs.LoneAdd.{lone_add_rules, lone_member_rules}
use Rattle.mls_follow.specs.LoneAddInternal.{FailsAddRule, add_fault_of}
use Rattle.mls_follow.specs.State.{State}
use Rattle.mls_follow.specs.declared.group.Group.{Group}
use Rattle.mls_follow.specs.declared.lone_add.AddFault.{AddFault}
use Rattle.mls_follow.specs.declared.lone_add.AddFault.TheVariants as faults
use Rattle.mls_follow.proofs.SignatureAgreement.{members_stay}

-- the outcome of a list of one Add
pub lone_outcome : (sender : Sender) (k : KeyPackage) (t : Tree)
    → outcome (record { sender = sender; proposal = Add k } ∷ []) t ≡ with_members (k.leaf_node ∷ []) t
unfolding outcome after_updates after_removes new_members
lone_outcome sender k t = refl

-- the rules depend on the context alone
pub same_rules : (s : State) (required : RequiredCapabilities) (o : Option AppliedTree)
    → first_failing (lone_add_rules (in_context s.context) required o) ≡ first_failing (lone_add_rules s required o)
same_rules s required None = refl
same_rules s required (Some g) = refl

module _ (context : GroupContext) (required : RequiredCapabilities) (t : Tree) (added : List ℕ) where
  abbrev judged : Option AddFault
  judged = first_failing (lone_add_rules (in_context context) required (Some (applied_tree t added)))

  abbrev fault : Option MemberFault
  fault = member_fault all_good context.cipher_suite context.group_id required t

  pub keys_repeated : has_distinct_keys t ≡ false → judged ≡ Some faults.KeyRepeated
  keys_repeated e = rw e refl

  module _ (distinct : has_distinct_keys t ≡ true) where
    of_members : judged ≡ first_failing (lone_member_rules fault)
    of_members = rw distinct refl

    pub members_fit : LeavesAreValid all_good context.cipher_suite context.group_id required t → judged ≡ None
    members_fit h =
        of_members
        ∙ ap (λ (o : Option MemberFault). first_failing (lone_member_rules o)) ((members-faultless all_good context.cipher_suite context.group_id required t).0 h)

    stranger : (f : MemberFault) → f ≢ members.OutOfMemory → IsMemberFault all_good context.cipher_suite context.group_id required t f
        → judged ≡ Some (faults.Member f)
    stranger f own h =
        of_members
        ∙ ap (λ (o : Option MemberFault). first_failing (lone_member_rules o)) ((fault-first all_good context.cipher_suite context.group_id required t f own).0 h)

    pub members_fail : (f : MemberFault) → IsMemberFault all_good context.cipher_suite context.group_id required t f → FailsAddRule judged (add_fault_of f)
    members_fail (members.ExtensionUnlisted i) h = λ _. stranger (members.ExtensionUnlisted i) (λ e. cc) h
    members_fail (members.RequirementUnmet i) h = λ _. stranger (members.RequirementUnmet i) (λ e. cc) h
    members_fail (members.CredentialUnsupported i) h = λ _. stranger (members.CredentialUnsupported i) (λ e. cc) h
    members_fail (members.SignatureKeyRepeated i) h = λ _. stranger (members.SignatureKeyRepeated i) (λ e. cc) h
    members_fail (members.LeafSignature i) h = λ _. stranger (members.LeafSignature i) (λ e. cc) h
    members_fail members.OutOfMemory h = λ own. absurd (own refl)

-- the tree of a follower satisfies the rules if every signature is good
pub satisfies : (G : VerifyFn) (group : Group) → HasUniqueKeysAndValidLeaves G (group_state group)
    → SatisfiesTreeRules all_good group.context group.required group.tree.tree
satisfies G group j = record {
  distinct = j.distinct;
  members =
      members_stay G all_good group.context.cipher_suite group.context.group_id group.required group.tree.tree (λ _ _ _ _ _. refl)
      (j.members group.required group.requires_these);
}
