-- Whether a GroupInfo of the present epoch is one of the group that is followed: whether a client that starts from it is where the
-- follower is (RFC 9420, 8.2, 12.4.3 and 12.4.3.2), and otherwise why not. G is the verification function of a checker, `s`
-- the state. Used by contracts.
use Rattle.std.specs.Prelude.{◌≡◌, ℕ, ◌==◌, ◌&&◌, ◌||◌, ◌++◌, nat_le, Bool, true, false, not, is_some, List, [], ◌∷◌, length, Option, Some, None, option_and_then}
use Rattle.std.specs.Str.{bytes_eq}
use Rattle.mls_wire.specs.Limits.{input_limit}
use Rattle.mls_nodes.specs.RatchetTreeEncoding.{full_size, ratchet_tree, trimmed}
use Rattle.mls_nodes.specs.Requirements.{extension_of}
use Rattle.mls_nodes.specs.declared.extension.Extension.{Extension}
use Rattle.mls_nodes.specs.declared.leaf.LeafNode.{LeafNode}
use Rattle.mls_tree.specs.Tree.{Tree, leaf_at, listing}
use Rattle.mls_hash.specs.SuiteHash.{hash_length}
use Rattle.mls_check.specs.Signatures.{VerifyFn, sign_content}
use Rattle.mls_msgs.specs.Rules.{has_rule}
use Rattle.mls_msgs.specs.Tbs.{info_label, info_tbs}
use Rattle.mls_msgs.specs.declared.group_info.GroupInfo.{GroupInfo}
use Rattle.mls_msgs.specs.declared.rules.Rules.{Rules}
use Rattle.mls_msgs.specs.declared.strict_rule.StrictRule.TheVariants as rules
use Rattle.mls_strict.specs.ExtensionLists.{has_each_once, if_there}
use Rattle.mls_apply.specs.RuleLists.{Rule, rule, first_failing}
use Rattle.mls_signatures.specs.SignaturesToVerify.{info_signatures}
use Rattle.mls_follow.specs.Start.{info_interim, is_info_signed}
use Rattle.mls_follow.specs.State.{State}
use Rattle.mls_examine.specs.GroupInfos.{has_usable_external_pub, info_rules, unaccepted}
use Rattle.mls_examine.specs.declared.unfit.Unfit.{Unfit}
use Rattle.mls_examine.specs.declared.unfit.Unfit.TheVariants as unfit

-- `have_same_extensions es fs`: the two lists have the same extensions, in one order.
abbrev pub have_same_extensions : List Extension → List Extension → Bool
have_same_extensions [] [] = true
have_same_extensions [] (f ∷ fs) = false
have_same_extensions (e ∷ es) [] = false
have_same_extensions (e ∷ es) (f ∷ fs) = (e.kind == f.kind) && bytes_eq e.body f.body && have_same_extensions es fs

-- `has_bytes o bytes`: there are bytes, and they are these.
abbrev pub has_bytes : Option (List ℕ) → List ℕ → Bool
has_bytes None bytes = false
has_bytes (Some x) bytes = bytes_eq x bytes

-- `encodes_tree t body`: the bytes are the encoding of the tree, within the limit of an input (RFC 9420, 12.4.3.3). A tree whose
-- right subtree is blank has none.
unfoldable pub encodes_tree : Tree → List ℕ → Bool
encodes_tree t body =
    has_bytes (ratchet_tree (trimmed (listing t))) body
    && (full_size (length (trimmed (listing t))) == length (listing t))
    && nat_le (length body) input_limit

-- `context_rules s info` is the rules for the GroupContext of a GroupInfo of the present epoch: the tree hash, the confirmed
-- transcript hash and the extensions are those of the state (RFC 9420, 8.1).
abbrev pub context_rules : State → GroupInfo → List (Rule Unfit)
context_rules s info =
    rule unfit.TreeHashDiffers (bytes_eq info.context.tree_hash s.context.tree_hash)
    ∷ rule unfit.ConfirmedDiffers (bytes_eq info.context.confirmed s.context.confirmed)
    ∷ rule unfit.ExtensionsDiffer (have_same_extensions info.context.extensions s.context.extensions)
    ∷ []

-- `epoch_rules s info` is the rules by the state itself: the confirmation tag leads to its interim transcript hash (RFC 9420,
-- 8.2), the signer's leaf is non-blank (12.4.3), and the first ratchet_tree, if there is one, is its tree (12.4.3.3).
abbrev pub epoch_rules : State → GroupInfo → List (Rule Unfit)
epoch_rules s info =
    rule unfit.TagDiffers (has_bytes (info_interim info) s.interim)
    ∷ rule unfit.SignerNotMember (is_some (leaf_at 0 s.tree info.signer))
    ∷ rule unfit.TreeDiffers (if_there (encodes_tree s.tree) (extension_of 2 info.extensions))
    ∷ []

-- `tag_length_met asked info`: if the set has strict rule 40, the confirmation tag has as many bytes as a hash of the suite (RFC
-- 9420, 6.1 and 17.1).
abbrev pub tag_length_met : Rules → GroupInfo → Bool
tag_length_met asked info =
    not (has_rule asked 40) || (length info.confirmation_tag == hash_length info.context.cipher_suite)

-- `each_once_met asked info`: if the set has strict rule 41, no two extensions of the GroupInfo are of one type (RFC 9420, 13.4).
abbrev pub each_once_met : Rules → GroupInfo → Bool
each_once_met asked info = not (has_rule asked 41) || has_each_once info.extensions

-- `has_content info`: what is signed of the GroupInfo has an encoding (RFC 9420, 5.1.2 and 12.4.3). That of a decoded one has.
abbrev pub has_content : GroupInfo → Bool
has_content info = is_some (option_and_then (sign_content info_label) (info_tbs info))

-- `part_rules s info` is the rules for the other parts: its external_pub, if there is one, is usable, and it meets the strict rules
-- 40 and 41 of the state.
abbrev pub part_rules : State → GroupInfo → List (Rule Unfit)
part_rules s info =
    rule unfit.ExternalPubInvalid (has_usable_external_pub s info)
    ∷ rule (unfit.Strict rules.TagLength) (tag_length_met s.rules info)
    ∷ rule (unfit.Strict rules.ExtensionRepeated) (each_once_met s.rules info)
    ∷ []

-- `current_rules s info` is the rules of a GroupInfo of the present epoch after those of any epoch, but for its signature.
abbrev pub current_rules : State → GroupInfo → List (Rule Unfit)
current_rules s info =
    context_rules s info ++ (epoch_rules s info ++ (part_rules s info ++ rule unfit.Malformed (has_content info) ∷ []))

-- `current_fault s info` is why a GroupInfo of the present epoch is not one of the group, whatever its signature is: the first of
-- these rules that fails.
unfoldable pub current_fault : State → GroupInfo → Option Unfit
current_fault s info = first_failing (current_rules s info)

-- `is_signed_by G info x`: the signature of the GroupInfo is good under the key of the leaf `x`, if it is non-blank (RFC 9420,
-- 12.4.3).
abbrev pub is_signed_by : VerifyFn → GroupInfo → Option LeafNode → Bool
is_signed_by G info None = false
is_signed_by G info (Some x) = is_info_signed G info x

-- `IsCurrent G s info`: the GroupInfo is one of the present epoch of the group.
pub record IsCurrent (G : VerifyFn) (s : State) (info : GroupInfo) : Type 0 where
  pub fits : first_failing (info_rules s info) ≡ None
  pub present : info.context.epoch ≡ s.context.epoch
  pub no_fault : current_fault s info ≡ None
  pub signed : is_signed_by G info (leaf_at 0 s.tree info.signer) ≡ true

-- `IsUnfitCurrent G s info e`: this is the first reason for which a GroupInfo of the present epoch is not one of the group. The
-- signature is asked last, and it is listed if it is not good.
abbrev pub IsUnfitCurrent : VerifyFn → State → GroupInfo → Unfit → Type 0
IsUnfitCurrent G s info (unfit.Unsigned qs) =
    (current_fault s info ≡ None) × (is_signed_by G info (leaf_at 0 s.tree info.signer) ≡ false)
    × (qs ≡ unaccepted G (info_signatures info (leaf_at 0 s.tree info.signer)))
IsUnfitCurrent G s info e = current_fault s info ≡ Some e
