-- What holds of KeyPackages and GroupInfos that fit a group that is followed, and of examinations. `s` is the state. Used by
-- contracts.
use Rattle.std.specs.Prelude.{◌≡◌, ◌≢◌, ◌⊎◌, ◌↔◌, ◌<◌, ℕ, [], true, false, List, Some, None}
use Rattle.mls_nodes.specs.Requirements.{extension_of}
use Rattle.mls_tree.specs.RatchetTree.{RatchetTree}
use Rattle.mls_tree.specs.Tree.{leaf_at}
use Rattle.mls_check.specs.GroupTree.{IsSupportedContext}
use Rattle.mls_check.specs.Signatures.{Extends, VerifyFn}
use Rattle.mls_msgs.specs.declared.group_info.GroupInfo.{GroupInfo}
use Rattle.mls_msgs.specs.declared.key_package.KeyPackage.{KeyPackage}
use Rattle.mls_strict.specs.ExtensionLists.{if_there}
use Rattle.mls_strict.specs.StrictTrees.{IsStrict}
use Rattle.mls_signatures.specs.declared.signature_to_verify.SignatureToVerify.{SignatureToVerify}
use Rattle.mls_follow.specs.Start.{IsStart}
use Rattle.mls_follow.specs.State.{State}
use Rattle.mls_follow.specs.Validity.{IsValidState}
use Rattle.mls_examine.specs.AddablePackages.{IsAddable}
use Rattle.mls_examine.specs.CurrentInfos.{IsCurrent, encodes_tree}
use Rattle.mls_examine.specs.Examinations.{IsExamined, IsUnfit}
use Rattle.mls_examine.specs.GroupInfos.{has_usable_external_pub}
use Rattle.mls_examine.specs.LaterInfos.{IsLater, is_known_signer}
use Rattle.mls_examine.specs.PackageLaws.{AcceptsEach}
use Rattle.mls_examine.specs.Packages.{IsGoodPackage}
use Rattle.mls_examine.specs.declared.examinations.Examined.{Examined}
use Rattle.mls_examine.specs.declared.unfit.Unfit.{Unfit}
use Rattle.mls_examine.specs.declared.unfit.Unfit.TheVariants as unfit

-- ---- theorems on KeyPackages

-- If a group can add a client by its KeyPackage, the KeyPackage is good by itself, by the strict rules of the group.
abbrev pub AddableIsGood : Type 0
AddableIsGood =
    (G : VerifyFn) (s : State) (k : KeyPackage)
    → IsSupportedContext s.context → IsAddable G s k → IsGoodPackage G s.rules k

-- ---- theorems on GroupInfos

-- `restarted s` is the state as a start leads to it: without pending proposals, and before the first commit.
abbrev pub restarted : State → State
restarted s = record {
  profile = s.profile;
  rules = s.rules;
  context = s.context;
  tree = s.tree;
  interim = s.interim;
  known = [];
  ended = false;
  added = None;
}

-- `Restarts G s t info`: with the tree `t` a follower starts from the GroupInfo where the follower is, and the GroupInfo has no
-- other ratchet_tree and no external_pub that is not usable. The group is not over.
pub record Restarts (G : VerifyFn) (s : State) (t : RatchetTree) (info : GroupInfo) : Type 0 where
  pub goes_on : s.ended ≡ false
  pub tree : if_there (encodes_tree s.tree) (extension_of 2 info.extensions) ≡ true
  pub external_pub : has_usable_external_pub s info ≡ true
  pub starts : IsStart s.rules s.profile G info (Some t) (restarted s)

-- In a valid, strict state a GroupInfo is one of the present epoch if and only if a follower starts from it where the follower is,
-- with the follower's tree.
abbrev pub CurrentInfosRestart : Type 0
CurrentInfosRestart =
    (G : VerifyFn) (s : State) (t : RatchetTree) (info : GroupInfo)
    → t.tree ≡ s.tree → IsSupportedContext s.context → IsValidState G s → IsStrict s.rules s.context s.tree
    → IsCurrent G s info ↔ Restarts G s t info

-- So does one start from the GroupInfo alone, if it has a ratchet_tree.
abbrev pub CurrentInfosStartAlone : Type 0
CurrentInfosStartAlone =
    (G : VerifyFn) (s : State) (t : RatchetTree) (info : GroupInfo) (body : List ℕ)
    → t.tree ≡ s.tree → IsSupportedContext s.context → IsValidState G s → IsStrict s.rules s.context s.tree
    → IsCurrent G s info → extension_of 2 info.extensions ≡ Some body
    → IsStart s.rules s.profile G info None (restarted s)

-- `StartsLater G s info`: a follower starts from the GroupInfo and the tree in it, in a later epoch of the group. Its signer has a
-- signature key of the state's tree. The group is not over, and the external_pub, if there is one, is usable.
pub record StartsLater (G : VerifyFn) (s : State) (info : GroupInfo) : Type 0 where
  pub new : State
  pub starts : IsStart s.rules s.profile G info None new
  pub group : info.context.group_id ≡ s.context.group_id
  pub suite : info.context.cipher_suite ≡ s.context.cipher_suite
  pub later : s.context.epoch < info.context.epoch
  pub goes_on : s.ended ≡ false
  pub external_pub : has_usable_external_pub s info ≡ true
  pub known : is_known_signer s.tree (leaf_at 0 new.tree info.signer) ≡ true

-- A GroupInfo is one of a later epoch if and only if a follower starts from it alone in a later epoch, and a known member vouches
-- for it.
abbrev pub LaterInfosStart : Type 0
LaterInfosStart =
    (G : VerifyFn) (s : State) (info : GroupInfo) → IsSupportedContext s.context → IsLater G s info ↔ StartsLater G s info

-- ---- theorems on examinations

-- What fits stays fit under each checker that accepts more signatures, with the same facts.
abbrev pub ExaminationsStay : Type 0
ExaminationsStay =
    (G K : VerifyFn) (s : State) (bytes : List ℕ) (x : Examined)
    → Extends G K → IsExamined G s bytes x → IsExamined K s bytes x

-- If signatures are the reason, the message fits under each checker that accepts these, and what the first one accepts.
abbrev pub ExaminationsAreCovered : Type 0
ExaminationsAreCovered =
    (G K : VerifyFn) (s : State) (bytes : List ℕ) (qs : List SignatureToVerify)
    → IsUnfit G s bytes (unfit.Unsigned qs) → Extends G K → AcceptsEach K qs → (x : Examined) × IsExamined K s bytes x

-- Any bytes fit a valid state, or there is a reason why they do not, other than out of memory.
abbrev pub ExaminationExists : Type 0
ExaminationExists =
    (G : VerifyFn) (s : State) (bytes : List ℕ) → IsValidState G s
    → ((x : Examined) × IsExamined G s bytes x) ⊎ ((e : Unfit) × (e ≢ unfit.OutOfMemory) × IsUnfit G s bytes e)

-- Bytes for which there is a reason do not fit.
abbrev pub ExaminedIsNotUnfit : Type 0
ExaminedIsNotUnfit =
    (G : VerifyFn) (s : State) (bytes : List ℕ) (x : Examined) (e : Unfit)
    → IsExamined G s bytes x → ¬ (IsUnfit G s bytes e)

-- What is known of fit bytes is one thing.
abbrev pub ExaminedIsUnique : Type 0
ExaminedIsUnique =
    (G : VerifyFn) (s : State) (bytes : List ℕ) (x y : Examined)
    → IsExamined G s bytes x → IsExamined G s bytes y → x ≡ y

-- In a valid state there is at most one reason.
abbrev pub UnfitIsUnique : Type 0
UnfitIsUnique =
    (G : VerifyFn) (s : State) (bytes : List ℕ) (e f : Unfit) → IsValidState G s
    → IsUnfit G s bytes e → IsUnfit G s bytes f → e ≡ f
