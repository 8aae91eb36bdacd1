-- Whether a GroupInfo of a later epoch is one from which the group can be followed anew: a member whom the follower knows vouches
-- for it (RFC 9420, 12.4.3; own rule). It does not show that the group has this epoch. G is the verification function of a
-- checker, `s` the state. Used by contracts.
use Rattle.std.specs.Prelude.{◌≡◌, ◌≢◌, ℕ, ◌<◌, Bool, false, not, List, [], ◌∷◌, Option, Some, None}
use Rattle.std.specs.Str.{bytes_eq}
use Rattle.mls_nodes.specs.declared.leaf.LeafNode.{LeafNode}
use Rattle.mls_tree.specs.Tree.{Tree, leaf_at}
use Rattle.mls_check.specs.LeafValidation.{all_leaves}
use Rattle.mls_check.specs.Signatures.{VerifyFn}
use Rattle.mls_msgs.specs.declared.group_info.GroupInfo.{GroupInfo}
use Rattle.mls_apply.specs.RuleLists.{Rule, rule, first_failing}
use Rattle.mls_signatures.specs.SignaturesToVerify.{start_signatures}
use Rattle.mls_signatures.specs.declared.signature_to_verify.SignatureToVerify.{SignatureToVerify}
use Rattle.mls_follow.specs.CoveredLogs.{all_good}
use Rattle.mls_follow.specs.Start.{IsStart, IsStartFault}
use Rattle.mls_follow.specs.State.{State}
use Rattle.mls_follow.specs.declared.start_fault.StartFault.TheVariants as starts
use Rattle.mls_examine.specs.GroupInfos.{has_usable_external_pub, info_rules, unaccepted}
use Rattle.mls_examine.specs.declared.unfit.Unfit.{Unfit}
use Rattle.mls_examine.specs.declared.unfit.Unfit.TheVariants as unfit

-- `has_signature_key t key`: some non-blank leaf of the tree has this signature key.
abbrev pub has_signature_key : Tree → List ℕ → Bool
has_signature_key t key = not (all_leaves (λ _ x. not (bytes_eq x.signature_key key)) 0 t)

-- `is_known_signer t x`: some non-blank leaf of the tree has the signature key of the leaf `x`, if that one is non-blank.
abbrev pub is_known_signer : Tree → Option LeafNode → Bool
is_known_signer t None = false
is_known_signer t (Some x) = has_signature_key t x.signature_key

-- `later_rules s info t` is the rules of a GroupInfo of a later epoch, from which a follower starts with the tree `t` if every
-- signature is good: the signer has a signature key of the state's tree (own rule), and its external_pub, if there is one, is
-- usable.
abbrev pub later_rules : State → GroupInfo → Tree → List (Rule Unfit)
later_rules s info t =
    rule unfit.SignerUnknown (is_known_signer s.tree (leaf_at 0 t info.signer))
    ∷ rule unfit.ExternalPubInvalid (has_usable_external_pub s info)
    ∷ []

-- `StartsTrusting s info new`: in the profile and by the strict rules of the state a follower starts from the GroupInfo and the
-- tree in it, in the state `new`, if every signature is good (RFC 9420, 12.4.3).
abbrev pub StartsTrusting : State → GroupInfo → State → Type 0
StartsTrusting s info new = IsStart s.rules s.profile all_good info None new

-- `IsLater G s info`: the GroupInfo is one of a later epoch, for which a known member vouches.
pub record IsLater (G : VerifyFn) (s : State) (info : GroupInfo) : Type 0 where
  pub fits : first_failing (info_rules s info) ≡ None
  pub later : s.context.epoch < info.context.epoch
  pub new : State
  pub starts : StartsTrusting s info new
  pub no_fault : first_failing (later_rules s info new.tree) ≡ None
  pub signed : unaccepted G (start_signatures info new.tree) ≡ []

-- `BreaksLaterRule s info e`: a follower starts from the GroupInfo if every signature is good, and the first of the rules after
-- that which fails is that of this reason.
pub record BreaksLaterRule (s : State) (info : GroupInfo) (e : Unfit) : Type 0 where
  pub new : State
  pub starts : StartsTrusting s info new
  pub fails : first_failing (later_rules s info new.tree) ≡ Some e

-- `IsUnsignedLater G s info qs`: only signatures of the start keep the GroupInfo from being fit, and these are not good.
pub record IsUnsignedLater (G : VerifyFn) (s : State) (info : GroupInfo) (qs : List SignatureToVerify) : Type 0 where
  pub new : State
  pub starts : StartsTrusting s info new
  pub no_fault : first_failing (later_rules s info new.tree) ≡ None
  pub some : qs ≢ []
  pub signatures : qs ≡ unaccepted G (start_signatures info new.tree)

-- `IsUnfitLater G s info e`: this is the first reason for which a GroupInfo of a later epoch is not fit. Signatures are asked
-- last, and those that are not good are listed.
abbrev pub IsUnfitLater : VerifyFn → State → GroupInfo → Unfit → Type 0
IsUnfitLater G s info (unfit.StartRefused fault) =
    (fault ≢ starts.OutOfMemory) × IsStartFault s.rules all_good info None fault
IsUnfitLater G s info (unfit.Unsigned qs) = IsUnsignedLater G s info qs
IsUnfitLater G s info e = BreaksLaterRule s info e
