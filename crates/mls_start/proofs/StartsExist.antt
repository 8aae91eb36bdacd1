-- A follower starts from a group info that some bytes spell, or there is a fault for which none does.
use Rattle.std.proofs.Common.{◌≡◌, ◌≢◌, ℕ, List, Bool, true, false, ◌++◌, Option, Some, None, refl, sym, ap, subst, inl, inr}
use Rattle.std.specs.Prelude.{◌⊎◌, option_map}
use Rattle.mls_wire.specs.EncodingConcat.{joined}
use Rattle.mls_wire.specs.Encoding.{◌⊕◌, number, vector, list}
use Rattle.std.specs.Int.{w32}
use Rattle.mls_nodes.specs.Extension.{extension}
use Rattle.mls_nodes.specs.Layout.{group_context}
use Rattle.mls_nodes.specs.Requirements.{extension_of}
use Rattle.mls_nodes.specs.declared.leaf.LeafNode.{LeafNode}
use Rattle.mls_nodes.specs.declared.required_capabilities.RequiredCapabilities.{RequiredCapabilities}
use Rattle.mls_tree.specs.RatchetTree.{RatchetTree}
use Rattle.mls_tree.specs.Tree.{leaf_at}
use Rattle.mls_hash.specs.SuiteHash.{hash_of}
use Rattle.mls_hash.specs.Suites.{IsSupported}
use Rattle.mls_check.proofs.GroupTreeAnswers.{group_tree_or_fault}
use Rattle.mls_check.proofs.GroupTrees.{members_too}
use Rattle.mls_check.specs.GroupTree.{IsSupportedContext, HasMembers}
use Rattle.mls_check.specs.Signatures.{VerifyFn}
use Rattle.mls_check.specs.declared.group_tree.GroupTreeFault.{GroupTreeFault}
use Rattle.mls_check.specs.declared.group_tree.GroupTreeFault.TheVariants as groups
use Rattle.mls_msgs.specs.Layout.{group_info}
use Rattle.mls_msgs.specs.Message.{message, header}
use Rattle.mls_msgs.specs.declared.group_info.GroupInfo.{GroupInfo}
use Rattle.mls_msgs.specs.declared.message.Message.TheVariants as messages
use Rattle.mls_msgs.specs.declared.profile.Profile.{Profile}
use Rattle.mls_msgs.specs.declared.rules.Rules.{Rules}
use Rattle.mls_follow.specs.Start.{UsesTree, UsesNoTree, IsTreeIn, HasSigner, IsStart, IsStartFault, is_info_signed, info_interim, initial_state}
use Rattle.mls_follow.specs.StartInternal.{start_fault_of}
use Rattle.mls_follow.specs.State.{State}
use Rattle.mls_apply.specs.Transcript.{interim_hash}
use Rattle.mls_follow.specs.declared.start_fault.StartFault.{StartFault}
use Rattle.mls_follow.specs.declared.start_fault.StartFault.TheVariants.{UnsupportedVersion, UnsupportedSuite, NoTree, SignerNotMember, InfoSignature, Strict, OutOfMemory}
use Rattle.mls_hash.proofs.Suites.{supported_or_not}
use Rattle.mls_follow.proofs.Readings.{tree_or_not, same_or_not}
use Rattle.mls_follow.proofs.Starting.{tree_fails}
use Rattle.mls_start.proofs.StrictStarts.{strict_or_fails}

-- ---- the interim transcript hash

tag_encoded : (info : GroupInfo) (bytes : List ℕ) → message (messages.GroupInfo info) ≡ Some bytes → (text : List ℕ) × (vector info.confirmation_tag ≡ Some text)
unfolding message group_info
tag_encoded info bytes e =
    let signed = number w32 info.signer ⊕ vector info.signature in
    let all = joined (header 4) (group_context info.context ⊕ (list extension info.extensions ⊕ (vector info.confirmation_tag ⊕ signed))) bytes e in
    let behind_context = joined (group_context info.context) (list extension info.extensions ⊕ (vector info.confirmation_tag ⊕ signed)) all.1 all.3 in
    let behind_extensions = joined (list extension info.extensions) (vector info.confirmation_tag ⊕ signed) behind_context.1 behind_context.3 in
    let tag = joined (vector info.confirmation_tag) signed behind_extensions.1 behind_extensions.3 in
    (tag.0, tag.2)

-- a group info that some bytes spell has an interim transcript hash
pub interim_of : (info : GroupInfo) (bytes : List ℕ) → message (messages.GroupInfo info) ≡ Some bytes → (interim : List ℕ) × (info_interim info ≡ Some interim)
unfolding interim_hash
interim_of info bytes e =
    let tag = tag_encoded info bytes e in
    let H = hash_of info.context.cipher_suite in
    (H (info.context.confirmed ++ tag.0), ap (option_map (λ (input : List ℕ). H (info.context.confirmed ++ input))) tag.1)

-- ---- the tree of an info

in_extension : (o : Option (List ℕ)) → ((t : RatchetTree) × IsTreeIn o t) ⊎ ((t : RatchetTree) → IsTreeIn o t → ⊥)
in_extension None = inr (λ t h. h)
in_extension (Some body) = elim (tree_or_not body) [ inl t ↦ inl t | inr none ↦ inr (λ t h. none h.nodes h.is_tree) ]

-- ---- a start

own_fault : (fault : GroupTreeFault) → fault ≢ groups.OutOfMemory → start_fault_of fault ≢ OutOfMemory
own_fault groups.RequirementsUnreadable own = λ e. cc
own_fault (groups.Tree fault) own = λ e. cc
own_fault (groups.Member fault) own = λ e. cc
own_fault groups.OutOfMemory own = absurd (own refl)

module _ (asked : Rules) (profile : Profile) (G : VerifyFn) (info : GroupInfo) (supplied : Option RatchetTree) (interim : List ℕ) (hashed : info_interim info ≡ Some interim) where
  abbrev pub StartsOrNot : Type 0
  StartsOrNot = ((s : State) × IsStart asked profile G info supplied s) ⊎ ((fault : StartFault) × (fault ≢ OutOfMemory) × IsStartFault asked G info supplied fault)

  uses_or_not : (o : Option RatchetTree) → ((t : RatchetTree) × UsesTree o info.extensions t) ⊎ UsesNoTree o info.extensions
  uses_or_not None = in_extension (extension_of 2 info.extensions)
  uses_or_not (Some t) = inl (t, refl)

  by_signature : (t : RatchetTree) (signer : LeafNode) → HasSigner G info supplied t signer → (b : Bool) → is_info_signed G info signer ≡ b → StartsOrNot
  by_signature t signer h true e =
      elim (strict_or_fails asked info t) [
        | inl meets ↦
            inl (
              initial_state asked profile info t interim,
              record {
                tree = t;
                signer = signer;
                has_signer = h;
                signed = e;
                strict_info = meets.of_info;
                strict = meets.of_tree;
                interim = interim;
                hashed = hashed;
                state = refl;
              },
            )
        | inr f ↦ inr (Strict f.0, λ own. cc, record { tree = t; signer = signer; has_signer = h; signed = e; fails = f.1 })
      ]
  by_signature t signer h false e = inr (InfoSignature, λ own. cc, record { tree = t; signer = signer; has_signer = h; unsigned = e })

  by_signer : (t : RatchetTree) (required : RequiredCapabilities) → HasMembers G info.context (UsesTree supplied info.extensions) t required → (o : Option LeafNode) → leaf_at 0 t.tree info.signer ≡ o → StartsOrNot
  by_signer t required h None e = inr (SignerNotMember, λ own. cc, record { tree = t; required = required; has_members = h; blank = e })
  by_signer t required h (Some signer) e =
      by_signature t signer (record { required = required; has_members = h; set = e }) (is_info_signed G info signer) refl

  by_tree : IsSupportedContext info.context → (t : RatchetTree) → UsesTree supplied info.extensions t → StartsOrNot
  by_tree followed t uses =
      elim (group_tree_or_fault G info.context t followed) [
        | inl m ↦
            (let too = λ (u : RatchetTree) (e : u ≡ t). subst (UsesTree supplied info.extensions) (sym e) uses in
            by_signer t m.0 (members_too G info.context (λ u. u ≡ t) (UsesTree supplied info.extensions) too t m.0 m.1) (leaf_at 0 t.tree info.signer) refl)
        | inr f ↦ inr (start_fault_of f.0, own_fault f.0 f.1, tree_fails asked G info t f.0 f.2 supplied uses)
      ]

  by_use : IsSupportedContext info.context → StartsOrNot
  by_use followed =
      elim (uses_or_not supplied) [
        | inl u ↦ by_tree followed u.0 u.1
        | inr none ↦ inr (NoTree, λ own. cc, record { supported = followed; none = none })
      ]

  by_suite : info.context.version ≡ 1 → IsSupported info.context.cipher_suite ⊎ (¬ IsSupported info.context.cipher_suite) → StartsOrNot
  by_suite version (inl suite) = by_use (record { version = version; suite = suite })
  by_suite version (inr none) = inr (UnsupportedSuite, λ own. cc, record { version = version; unsupported = none })

-- a follower starts, or there is a fault
pub starts_or_not : (asked : Rules) (profile : Profile) (G : VerifyFn) (info : GroupInfo) (supplied : Option RatchetTree) (interim : List ℕ) → info_interim info ≡ Some interim
    → ((s : State) × IsStart asked profile G info supplied s) ⊎ ((fault : StartFault) × (fault ≢ OutOfMemory) × IsStartFault asked G info supplied fault)
starts_or_not asked profile G info supplied interim hashed =
    elim (same_or_not info.context.version 1) [
      | inl version ↦ by_suite asked profile G info supplied interim hashed version (supported_or_not info.context.cipher_suite)
      | inr other ↦ inr (UnsupportedVersion, λ own. cc, other)
    ]
