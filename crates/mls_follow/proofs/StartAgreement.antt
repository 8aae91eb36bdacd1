-- Two meanings that answer the wanted signatures of a start alike start a follower alike.
use Rattle.std.proofs.Common.{◌≡◌, ◌∙◌, ℕ, ◌++◌, Option, Some, sym, subst}
use Rattle.mls_nodes.specs.declared.leaf.LeafNode.{LeafNode}
use Rattle.mls_nodes.specs.declared.required_capabilities.RequiredCapabilities.{RequiredCapabilities}
use Rattle.mls_tree.specs.Tree.{leaf_at}
use Rattle.mls_tree.specs.RatchetTree.{RatchetTree}
use Rattle.mls_check.specs.GroupTree.{HasMembers, HasValidTree}
use Rattle.mls_check.specs.LeafValidation.{is_leaf_signed}
use Rattle.mls_check.specs.Signatures.{VerifyFn}
use Rattle.mls_msgs.specs.declared.group_info.GroupInfo.{GroupInfo}
use Rattle.mls_msgs.specs.declared.profile.Profile.{Profile}
use Rattle.mls_msgs.specs.declared.rules.Rules.{Rules}
use Rattle.mls_follow.specs.State.{State}
use Rattle.mls_follow.specs.Start.{UsesTree, HasSigner, is_info_signed, IsStart, IsStartFault}
use Rattle.mls_signatures.specs.Agreement.{AgreeOn}
use Rattle.mls_signatures.specs.SignaturesToVerify.{is_supported_info, info_signatures, tree_signatures, all_start_signatures}
use Rattle.mls_follow.specs.MessageSignatures.{AgreeOnStart, SignaturesDetermineStart, SignaturesDetermineStartFault}
use Rattle.mls_follow.specs.declared.start_fault.StartFault.{StartFault}
use Rattle.mls_follow.specs.declared.start_fault.StartFault.TheVariants as starts
use Rattle.mls_signatures.proofs.SupportedContexts.{passes_context}
use Rattle.mls_signatures.proofs.Agreement.{front, back, from_deduplicated, given}
use Rattle.mls_follow.proofs.SignatureAgreement.{tree_leaf, leaf_alike, info_alike, members_alike, faults_alike}

module _ (asked : Rules) (G K : VerifyFn) (info : GroupInfo) (supplied : Option RatchetTree) (agree : AgreeOnStart G K info supplied) where
  module _ (t : RatchetTree) (required : RequiredCapabilities) (valid : HasValidTree info.context (UsesTree supplied info.extensions) t required) where
    signatures : AgreeOn G K (info_signatures info (leaf_at 0 t.tree info.signer) ++ tree_signatures info.context.cipher_suite info.context.group_id 0 t.tree)
    signatures =
        given G K (is_supported_info info) (info_signatures info (leaf_at 0 t.tree info.signer) ++ tree_signatures info.context.cipher_suite info.context.group_id 0 t.tree)
        (passes_context info.context valid.readable.has_tree.supported)
        (from_deduplicated G K (all_start_signatures info t.tree) (agree t valid.readable.has_tree.uses))

    leaves_say : (i : ℕ) (x : LeafNode) → leaf_at 0 t.tree i ≡ Some x
        → is_leaf_signed G info.context.cipher_suite info.context.group_id i x ≡ is_leaf_signed K info.context.cipher_suite info.context.group_id i x
    leaves_say i x e =
        leaf_alike G K info.context.cipher_suite info.context.group_id i x
        (tree_leaf G K info.context.cipher_suite info.context.group_id 0 t.tree
        (back G K (info_signatures info (leaf_at 0 t.tree info.signer)) (tree_signatures info.context.cipher_suite info.context.group_id 0 t.tree) signatures) i x e)

  members_move : (t : RatchetTree) (required : RequiredCapabilities) → HasMembers G info.context (UsesTree supplied info.extensions) t required → HasMembers K info.context (UsesTree supplied info.extensions) t required
  members_move t required m = record {
    valid_tree = m.valid_tree;
    members = members_alike G K info.context.cipher_suite info.context.group_id required t.tree (leaves_say t required m.valid_tree) m.members;
  }

  signer_moves : (t : RatchetTree) (signer : LeafNode) → HasSigner G info supplied t signer → HasSigner K info supplied t signer
  signer_moves t signer h = record { required = h.required; has_members = members_move t h.required h.has_members; set = h.set }

  -- the group info's signature is judged alike
  signed_alike : (t : RatchetTree) (signer : LeafNode) → HasSigner G info supplied t signer → is_info_signed G info signer ≡ is_info_signed K info signer
  signed_alike t signer h =
      info_alike G K info signer
      (subst (λ (o : Option LeafNode). AgreeOn G K (info_signatures info o)) h.set
      (front G K (info_signatures info (leaf_at 0 t.tree info.signer)) (tree_signatures info.context.cipher_suite info.context.group_id 0 t.tree)
      (signatures t h.required h.has_members.valid_tree)))

  start_moves : (profile : Profile) (s : State) → IsStart asked profile G info supplied s → IsStart asked profile K info supplied s
  start_moves profile s h = record {
    tree = h.tree;
    signer = h.signer;
    has_signer = signer_moves h.tree h.signer h.has_signer;
    signed = sym (signed_alike h.tree h.signer h.has_signer) ∙ h.signed;
    strict_info = h.strict_info;
    strict = h.strict;
    interim = h.interim;
    hashed = h.hashed;
    state = h.state;
  }

  fault_moves : (fault : StartFault) → IsStartFault asked G info supplied fault → IsStartFault asked K info supplied fault
  fault_moves starts.UnsupportedVersion h = h
  fault_moves starts.UnsupportedSuite h = h
  fault_moves starts.NoTree h = h
  fault_moves starts.RequirementsUnreadable h = h
  fault_moves (starts.Tree fault) h = h
  fault_moves (starts.Member fault) h = record {
    tree = h.tree;
    required = h.required;
    valid_tree = h.valid_tree;
    not_out_of_memory = h.not_out_of_memory;
    first =
        faults_alike G K info.context.cipher_suite info.context.group_id h.required h.tree.tree (leaves_say h.tree h.required h.valid_tree)
        fault h.not_out_of_memory h.first;
  }
  fault_moves starts.SignerNotMember h = record {
    tree = h.tree;
    required = h.required;
    has_members = members_move h.tree h.required h.has_members;
    blank = h.blank;
  }
  fault_moves starts.InfoSignature h = record {
    tree = h.tree;
    signer = h.signer;
    has_signer = signer_moves h.tree h.signer h.has_signer;
    unsigned = sym (signed_alike h.tree h.signer h.has_signer) ∙ h.unsigned;
  }
  fault_moves (starts.Strict fault) h = record {
    tree = h.tree;
    signer = h.signer;
    has_signer = signer_moves h.tree h.signer h.has_signer;
    signed = sym (signed_alike h.tree h.signer h.has_signer) ∙ h.signed;
    fails = h.fails;
  }
  fault_moves starts.OutOfMemory h = h

pub decide_starts : SignaturesDetermineStart
decide_starts asked profile G K info supplied s agree h = start_moves asked G K info supplied agree profile s h

pub decide_faults : SignaturesDetermineStartFault
decide_faults asked G K info supplied fault agree h = fault_moves asked G K info supplied agree fault h
