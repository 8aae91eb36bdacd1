-- The signatures of a start: that of the GroupInfo, and those of the leaves of the state in which it starts.
use Rattle.std.proofs.Common.{◌≡◌, ◌∙◌, ℕ, List, [], ◌++◌, Bool, true, false, Option, Some, None, refl, sym, ap, subst}
use Rattle.std.specs.Prelude.{if◌then◌else◌}
use Rattle.mls_tree.specs.RatchetTree.{RatchetTree}
use Rattle.mls_tree.specs.Tree.{Tree, leaf_at}
use Rattle.mls_check.specs.LeafValidation.{all_leaves, has_unique_signature_key, member_rule, LeavesAreValid}
use Rattle.mls_check.specs.Signatures.{VerifyFn}
use Rattle.mls_msgs.specs.declared.group_info.GroupInfo.{GroupInfo}
use Rattle.mls_nodes.specs.declared.required_capabilities.RequiredCapabilities.{RequiredCapabilities}
use Rattle.mls_signatures.proofs.DistinctStarts.{start_signatures_are_distinct}
use Rattle.mls_signatures.proofs.SupportedContexts.{passes_context}
use Rattle.mls_signatures.specs.SignaturesToVerify.{info_signatures, is_supported_info, start_signatures}
use Rattle.mls_signatures.specs.declared.signature_to_verify.SignatureToVerify.{SignatureToVerify}
use Rattle.mls_msgs.specs.declared.profile.Profile.{Profile}
use Rattle.mls_msgs.specs.declared.rules.Rules.{Rules}
use Rattle.mls_follow.specs.CoveredLogs.{all_good}
use Rattle.mls_follow.specs.MessageSignatures.{state_signatures}
use Rattle.mls_follow.specs.Start.{UsesTree, UsesNoTree, IsStart, initial_state}
use Rattle.mls_follow.specs.State.{State}
use Rattle.mls_start.specs.StartSignatures.{StartHasSignatures}
use Rattle.mls_start.specs.StartSteps.{AreInfoSignatures}
use Rattle.mls_start.proofs.StartsOnce.{one_tree}

-- ---- that of the GroupInfo

module _ (info : GroupInfo) (h : RatchetTree) (signatures : List SignatureToVerify) (is : signatures ≡ info_signatures info (leaf_at 0 h.tree info.signer)) where
  pub info-supplied : AreInfoSignatures info (Some h) signatures
  info-supplied t uses = is ∙ ap (λ (v : RatchetTree). info_signatures info (leaf_at 0 v.tree info.signer)) (sym uses)

  pub info-own : UsesTree None info.extensions h → AreInfoSignatures info None signatures
  info-own own t uses =
      is ∙ ap (λ (v : RatchetTree). info_signatures info (leaf_at 0 v.tree info.signer)) (one_tree None info.extensions h t own uses)

pub info-none : (info : GroupInfo) (signatures : List SignatureToVerify) → UsesNoTree None info.extensions → AreInfoSignatures info None signatures
info-none info signatures none t uses = absurd (none t uses)

-- ---- all of them

all_if : (b : Bool) (signatures : List SignatureToVerify) → b ≡ true → (if b then signatures else []) ≡ signatures
all_if true signatures e = refl
all_if false signatures e = absurd cc

own_keys : (G : VerifyFn) (suite : ℕ) (group_id : List ℕ) (required : RequiredCapabilities) (t : Tree) → LeavesAreValid G suite group_id required t
    → all_leaves (has_unique_signature_key t) 0 t ≡ true
unfolding member_rule
own_keys G suite group_id required t h = h.rules 4

-- the leaves are valid, so none is a duplicate
pub start-has : (asked : Rules) (profile : Profile) (info : GroupInfo) (supplied : Option RatchetTree) (s : State) (signatures : List SignatureToVerify)
    → IsStart asked profile all_good info supplied s → AreInfoSignatures info supplied signatures
    → StartHasSignatures asked profile info supplied s (signatures ++ state_signatures s)
start-has asked profile info supplied s signatures start of_info =
    let members = start.has_signer.has_members in
    let first : State = initial_state asked profile info start.tree start.interim in
    let whole : start_signatures info first.tree ≡ info_signatures info (leaf_at 0 start.tree.tree info.signer) ++ state_signatures first =
    start_signatures_are_distinct info start.tree.tree (own_keys all_good info.context.cipher_suite info.context.group_id start.has_signer.required start.tree.tree members.members)
    ∙ all_if (is_supported_info info) (info_signatures info (leaf_at 0 start.tree.tree info.signer) ++ state_signatures first) (passes_context info.context members.valid_tree.readable.has_tree.supported) in
    let here : signatures ++ state_signatures first ≡ start_signatures info first.tree =
    ap (λ (ws : List SignatureToVerify). ws ++ state_signatures first) (of_info start.tree members.valid_tree.readable.has_tree.uses) ∙ sym whole in
    record { start = start; needed_is = subst (λ (z : State). signatures ++ state_signatures z ≡ start_signatures info z.tree) (sym start.state) here }
