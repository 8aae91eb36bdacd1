-- What the last step of an examination of a GroupInfo of the present epoch returns. Internal: no public contract uses this.
use Rattle.std.specs.Prelude.{◌≡◌, true, false}
use Rattle.mls_tree.specs.Tree.{leaf_at}
use Rattle.mls_check.specs.Signatures.{VerifyFn}
use Rattle.mls_msgs.specs.declared.group_info.GroupInfo.{GroupInfo}
use Rattle.mls_signatures.specs.SignaturesToVerify.{info_signatures}
use Rattle.mls_follow.specs.State.{State}
use Rattle.mls_examine.specs.CurrentInfos.{has_content, is_signed_by}
use Rattle.mls_examine.specs.GroupInfos.{unaccepted}
use Rattle.mls_examine.specs.declared.unfit.Unfit.{Unfit}
use Rattle.mls_examine.specs.declared.unfit.Unfit.TheVariants as unfit

-- `IsUnfitSignature G s info e`: what is signed of the GroupInfo has no encoding, or its signature is not good, for this reason.
abbrev pub IsUnfitSignature : VerifyFn → State → GroupInfo → Unfit → Type 0
IsUnfitSignature G s info unfit.Malformed = has_content info ≡ false
IsUnfitSignature G s info (unfit.Unsigned qs) =
    (has_content info ≡ true) × (is_signed_by G info (leaf_at 0 s.tree info.signer) ≡ false)
    × (qs ≡ unaccepted G (info_signatures info (leaf_at 0 s.tree info.signer)))
IsUnfitSignature G s info e = ⊥
