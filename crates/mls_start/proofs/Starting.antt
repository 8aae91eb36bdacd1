-- What a start from a GroupInfo and a tree comes to.
use Rattle.std.proofs.Common.{◌≡◌, ◌≢◌, ℕ, List, Option, refl, sym, subst}
use Rattle.mls_wire.specs.ReadContracts.{DecodesInput}
use Rattle.std.specs.Prelude.{Ok, Err}
use Rattle.mls_wire.specs.declared.fault.CodecFault.TheVariants as codec
use Rattle.mls_wire.specs.declared.fault.WireFault.{WireFault}
use Rattle.mls_nodes.specs.declared.fault.NodeFault.{NodeFault}
use Rattle.mls_nodes.specs.declared.fault.NodeFault.TheVariants as nodes
use Rattle.mls_tree.specs.RatchetTree.{RatchetTree}
use Rattle.mls_check.specs.Signatures.{VerifyFn}
use Rattle.mls_msgs.specs.Profile.{message_in}
use Rattle.mls_msgs.specs.declared.group_info.GroupInfo.{GroupInfo}
use Rattle.mls_msgs.specs.declared.message.Message.{Message}
use Rattle.mls_msgs.specs.declared.message.Message.TheVariants as messages
use Rattle.mls_msgs.specs.declared.profile.Profile.{Profile}
use Rattle.mls_msgs.specs.declared.rules.Rules.{Rules}
use Rattle.mls_signatures.specs.declared.signature_to_verify.SignatureToVerify.{SignatureToVerify}
use Rattle.mls_follow.proofs.ReadInProfile.{encodes, encodes_none}
use Rattle.mls_follow.specs.Start.{IsStart, IsStartFault}
use Rattle.mls_follow.specs.State.{State}
use Rattle.mls_follow.specs.declared.start_fault.StartFault.{StartFault}
use Rattle.mls_follow.specs.declared.start_fault.StartFault.TheVariants as starts
use Rattle.mls_start.specs.Inputs.{OfInfo}
use Rattle.mls_start.specs.StartFailures.{Says}
use Rattle.mls_start.specs.StartFindings.{IsInfo, IsReadAs, IsSuppliedUnread, IsStarted, Declines}
use Rattle.mls_start.specs.StartSignatures.{StartHasSignatures, StartsWithSignatures}
use Rattle.mls_start.specs.StartSteps.{IsUnread}
use Rattle.mls_start.specs.declared.finding.Finding.TheVariants.{InfoUnreadable, NotGroupInfo, TreeUnreadable, StartRefused}
use Rattle.mls_start.specs.declared.start_bytes.StartFailure.{StartFailure}
use Rattle.mls_start.specs.declared.start_bytes.StartFailure.TheVariants.{Found, OutOfMemory}

-- ---- what cannot be read

module _ (profile : Profile) (info_bytes : List ℕ) (tree_bytes : Option (List ℕ)) where
  pub unread : (fault : WireFault) → DecodesInput (message_in profile) info_bytes (Err (codec.Wire fault)) → IsUnread profile info_bytes tree_bytes (InfoUnreadable fault)
  unread fault h asked G = record { found = encodes_none profile info_bytes fault h; not_valid = refl }

  pub other : (m : Message) → DecodesInput (message_in profile) info_bytes (Ok m) → ((info : GroupInfo) → m ≢ messages.GroupInfo info) → IsUnread profile info_bytes tree_bytes NotGroupInfo
  other m h none asked G = record { found = (m, encodes profile m info_bytes h, none); not_valid = refl }

  pub no_tree : (info : GroupInfo) (fault : NodeFault) → IsInfo profile info_bytes info → IsSuppliedUnread tree_bytes → fault ≢ nodes.OutOfMemory
      → IsUnread profile info_bytes tree_bytes (TreeUnreadable fault)
  no_tree info fault h none own asked G = record { found = (info, h, none, own); not_valid = refl }

  pub says_unread : (asked : Rules) (G : VerifyFn) (failure : StartFailure) → Says (IsUnread profile info_bytes tree_bytes) failure
      → Says (Declines G (OfInfo asked profile info_bytes tree_bytes)) failure
  says_unread asked G (Found finding) h = h asked G
  says_unread asked G OutOfMemory h = tt

-- ---- what is read

module _ (asked : Rules) (profile : Profile) (info_bytes : List ℕ) (tree_bytes : Option (List ℕ)) (info : GroupInfo) (supplied : Option RatchetTree)
    (is_read : IsReadAs profile info_bytes tree_bytes info supplied) where
  pub is_started : (G : VerifyFn) (s : State) → IsStart asked profile G info supplied s → IsStarted asked profile G info_bytes tree_bytes s
  is_started G s start = record { info = info; supplied = supplied; is_read = is_read; start = start }

  pub starts_with : (s : State) (ws : List SignatureToVerify) → StartHasSignatures asked profile info supplied s ws → StartsWithSignatures asked profile info_bytes tree_bytes s ws
  starts_with s ws has = record { info = info; supplied = supplied; is_read = is_read; has_signatures = has }

  pub says_declines : (G : VerifyFn) (fault : StartFault) → IsStartFault asked G info supplied fault → (failure : StartFailure)
      → Says (λ finding. (fault ≢ starts.OutOfMemory) × (finding ≡ StartRefused fault)) failure → Says (Declines G (OfInfo asked profile info_bytes tree_bytes)) failure
  says_declines G fault fails (Found finding) h =
      subst (Declines G (OfInfo asked profile info_bytes tree_bytes)) (sym h.1) (record { found = (info, supplied, is_read, h.0, fails); not_valid = refl })
  says_declines G fault fails OutOfMemory h = tt
