-- The signatures of a start or a resumption. Used by contracts.
use Rattle.std.specs.Prelude.{◌≡◌, ℕ, List, Option}
use Rattle.mls_tree.specs.RatchetTree.{RatchetTree}
use Rattle.mls_msgs.specs.declared.group_info.GroupInfo.{GroupInfo}
use Rattle.mls_msgs.specs.declared.profile.Profile.{Profile}
use Rattle.mls_msgs.specs.declared.rules.Rules.{Rules}
use Rattle.mls_signatures.specs.SignaturesToVerify.{start_signatures, resumption_signatures}
use Rattle.mls_signatures.specs.declared.signature_to_verify.SignatureToVerify.{SignatureToVerify}
use Rattle.mls_follow.specs.CoveredLogs.{all_good}
use Rattle.mls_follow.specs.Start.{IsStart}
use Rattle.mls_follow.specs.State.{State}
use Rattle.mls_start.specs.Inputs.{Inputs, OfInfo, OfState}
use Rattle.mls_start.specs.StartFindings.{IsReadAs, IsResumedWith}

-- `StartHasSignatures asked profile info supplied s signatures`: a follower with these strict rules starts from a GroupInfo
-- and a tree in this state, each signature being good, and the start has these signatures.
pub record StartHasSignatures (asked : Rules) (profile : Profile) (info : GroupInfo) (supplied : Option RatchetTree)
    (s : State) (signatures : List SignatureToVerify) : Type 0 where
  pub start : IsStart asked profile all_good info supplied s
  pub needed_is : signatures ≡ start_signatures info s.tree

-- `StartsWithSignatures asked profile info_bytes tree_bytes s signatures`: a follower with these strict rules starts from the
-- bytes of a GroupInfo, and of a tree if one is passed, in this state, each signature being good, and the start has these
-- signatures.
pub record StartsWithSignatures (asked : Rules) (profile : Profile) (info_bytes : List ℕ) (tree_bytes : Option (List ℕ))
    (s : State) (signatures : List SignatureToVerify) : Type 0 where
  pub info : GroupInfo
  pub supplied : Option RatchetTree
  pub is_read : IsReadAs profile info_bytes tree_bytes info supplied
  pub has_signatures : StartHasSignatures asked profile info supplied s signatures

-- `ResumesWithSignatures asked bytes s signatures`: a follower resumes from the bytes, with these strict rules added, in this
-- state, each signature being good, and the resumption has these signatures. Strict rules demand no signature.
pub record ResumesWithSignatures (asked : Rules) (bytes : List ℕ) (s : State) (signatures : List SignatureToVerify)
    : Type 0 where
  pub resumed : IsResumedWith asked all_good bytes s
  pub signatures_are : signatures ≡ resumption_signatures s.context s.tree s.known

-- `StartsWith i s signatures`: a follower starts or resumes from the inputs in the state `s`, each signature being good,
-- and these are the signatures of that.
abbrev pub StartsWith : Inputs → State → List SignatureToVerify → Type 0
StartsWith (OfInfo asked profile info_bytes tree_bytes) s signatures =
    StartsWithSignatures asked profile info_bytes tree_bytes s signatures
StartsWith (OfState asked bytes) s signatures = ResumesWithSignatures asked bytes s signatures
