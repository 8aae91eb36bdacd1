-- Where a follower starts (RFC 9420, 12.4.3 and 12.4.3.1): eight conditions, in their order, and then the strict rules of a
-- set, `asked` (own rule). The first six conditions are those of a GroupContext with its tree (`mls_check/specs/GroupTree`),
-- for the context and the tree of a GroupInfo. `supplied` is the tree that the caller passes, if there is one. Used by
-- contracts.
use Rattle.std.specs.Prelude.{◌≡◌, ◌≢◌, ◌⊎◌, ℕ, List, [], length, Bool, true, false, Option, Some, None}
use Rattle.mls_nodes.specs.Requirements.{extension_of}
use Rattle.mls_nodes.specs.declared.extension.Extension.{Extension}
use Rattle.mls_nodes.specs.declared.leaf.LeafNode.{LeafNode}
use Rattle.mls_nodes.specs.declared.required_capabilities.RequiredCapabilities.{RequiredCapabilities}
use Rattle.mls_tree.specs.Tree.{leaf_at}
use Rattle.mls_tree.specs.RatchetTree.{RatchetTree}
use Rattle.mls_hash.specs.SuiteHash.{hash_length, hash_of}
use Rattle.mls_check.specs.Signatures.{VerifyFn, is_signed_text}
use Rattle.mls_check.specs.GroupTree.{IsSupportedContext, HasMembers, FailsSuite, FailsRequirements, FailsValid, FailsMembers}
use Rattle.mls_msgs.specs.Rules.{has_rule}
use Rattle.mls_msgs.specs.Tbs.{info_label, info_tbs}
use Rattle.mls_msgs.specs.declared.group_info.GroupInfo.{GroupInfo}
use Rattle.mls_msgs.specs.declared.profile.Profile.{Profile}
use Rattle.mls_follow.specs.State.{State}
use Rattle.mls_tree.specs.TreeDecoding.{IsTreeOf}
use Rattle.mls_apply.specs.Transcript.{interim_hash}
use Rattle.mls_follow.specs.declared.start_fault.StartFault.{StartFault}
use Rattle.mls_follow.specs.declared.start_fault.StartFault.TheVariants.{UnsupportedVersion, UnsupportedSuite, NoTree, RequirementsUnreadable, Tree, Member, SignerNotMember, InfoSignature, Strict, OutOfMemory}
use Rattle.mls_msgs.specs.declared.rules.Rules.{Rules}
use Rattle.mls_msgs.specs.declared.strict_rule.StrictRule.{StrictRule}
use Rattle.mls_msgs.specs.declared.strict_rule.StrictRule.TheVariants as rules
use Rattle.mls_strict.specs.ExtensionLists.{has_each_once}
use Rattle.mls_strict.specs.StrictTrees.{IsStrict, IsStrictFault}
use Rattle.mls_strict.specs.declared.strict_fault.StrictFault.{StrictFault}

-- `IsTreeIn data t`: the data of the extension of type 2 is the encoding of the tree (RFC 9420, 12.4.3.3).
abbrev pub IsTreeIn : Option (List ℕ) → RatchetTree → Type 0
IsTreeIn None t = ⊥
IsTreeIn (Some body) t = IsTreeOf body t

-- `UsesTree supplied extensions t`: `t` is the tree that the caller passes, otherwise the one in the first extension of
-- type 2 of the GroupInfo (RFC 9420, 12.4.3.3).
abbrev pub UsesTree : Option RatchetTree → List Extension → RatchetTree → Type 0
UsesTree (Some supplied) extensions t = t ≡ supplied
UsesTree None extensions t = IsTreeIn (extension_of 2 extensions) t

-- `UsesNoTree supplied extensions`: the caller passes no tree, and the GroupInfo has none in its first extension of type 2
-- (RFC 9420, 12.4.3.3).
abbrev pub UsesNoTree : Option RatchetTree → List Extension → Type 0
UsesNoTree supplied extensions = (t : RatchetTree) → UsesTree supplied extensions t → ⊥

-- Conditions 1 to 6: the version and the suite are supported, there is a tree, the required capabilities can be read,
-- the tree is valid, and its leaf nodes are valid. That is `HasMembers` of the context and the tree of the GroupInfo.

-- Condition 7, with those before it: the signer's leaf is non-blank (RFC 9420, 12.4.3).
pub record HasSigner
    (G : VerifyFn) (info : GroupInfo) (supplied : Option RatchetTree) (t : RatchetTree)
    (signer : LeafNode) : Type 0 where
  pub required : RequiredCapabilities
  pub has_members : HasMembers G info.context (UsesTree supplied info.extensions) t required
  pub set : leaf_at 0 t.tree info.signer ≡ Some signer

-- Condition 8: the signature of the GroupInfo is good under the key of the leaf `x` (RFC 9420, 12.4.3).
unfoldable pub is_info_signed : VerifyFn → GroupInfo → LeafNode → Bool
is_info_signed G info x =
    is_signed_text G info.context.cipher_suite x.signature_key info_label (info_tbs info)
    info.signature

-- `info_interim info` is the interim transcript hash of a GroupInfo (RFC 9420, 8.2).
abbrev pub info_interim : GroupInfo → Option (List ℕ)
info_interim info =
    interim_hash (hash_of info.context.cipher_suite) info.context.confirmed
    (Some info.confirmation_tag)

-- `initial_state asked profile info t interim` is the state of a GroupInfo, a tree and an interim transcript hash, with no
-- pending proposals. Whether the group was reinitialized before, no GroupInfo says (RFC 9420, 11.2): it goes on.
abbrev pub initial_state : Rules → Profile → GroupInfo → RatchetTree → List ℕ → State
initial_state asked profile info t interim = record {
  profile = profile;
  rules = asked;
  context = info.context;
  tree = t.tree;
  interim = interim;
  known = [];
  ended = false;
  added = None;
}

-- `InfoMeets asked info`: the GroupInfo by itself meets the strict rules. Its confirmation tag has as many bytes as a hash of
-- the suite (40; RFC 9420, 6.1 and 17.1), and its list of extensions has each type once (41; 13.4).
pub record InfoMeets (asked : Rules) (info : GroupInfo) : Type 0 where
  pub tag : has_rule asked 40 ≡ true → length info.confirmation_tag ≡ hash_length info.context.cipher_suite
  pub extensions : has_rule asked 41 ≡ true → has_each_once info.extensions ≡ true

-- `IsStart asked profile G info supplied s`: a follower with this profile and these strict rules starts from the GroupInfo
-- in this state. All eight conditions hold, and the strict rules are met.
pub record IsStart
    (asked : Rules) (profile : Profile) (G : VerifyFn) (info : GroupInfo) (supplied : Option RatchetTree) (s : State) : Type 0 where
  pub tree : RatchetTree
  pub signer : LeafNode
  pub has_signer : HasSigner G info supplied tree signer
  pub signed : is_info_signed G info signer ≡ true
  pub strict_info : InfoMeets asked info
  pub strict : IsStrict asked info.context tree.tree
  pub interim : List ℕ
  pub hashed : info_interim info ≡ Some interim
  pub state : s ≡ initial_state asked profile info tree interim

-- ---- why no follower starts: the first condition that fails

-- `FailsTree info supplied`: condition 3 fails, there is no tree.
pub record FailsTree (info : GroupInfo) (supplied : Option RatchetTree) : Type 0 where
  pub supported : IsSupportedContext info.context
  pub none : UsesNoTree supplied info.extensions

-- `FailsSigner G info supplied`: condition 7 fails, the signer's leaf is blank.
pub record FailsSigner (G : VerifyFn) (info : GroupInfo) (supplied : Option RatchetTree) : Type 0 where
  pub tree : RatchetTree
  pub required : RequiredCapabilities
  pub has_members : HasMembers G info.context (UsesTree supplied info.extensions) tree required
  pub blank : leaf_at 0 tree.tree info.signer ≡ None

-- `FailsSignature G info supplied`: condition 8 fails, the signature of the GroupInfo is not good.
pub record FailsSignature
    (G : VerifyFn) (info : GroupInfo) (supplied : Option RatchetTree) : Type 0 where
  pub tree : RatchetTree
  pub signer : LeafNode
  pub has_signer : HasSigner G info supplied tree signer
  pub unsigned : is_info_signed G info signer ≡ false

-- `IsInfoFault asked info rule`: this strict rule, 40 or 41, is the first of the set that the GroupInfo by itself does not
-- meet.
abbrev pub IsInfoFault : Rules → GroupInfo → StrictRule → Type 0
IsInfoFault asked info rules.TagLength =
    (has_rule asked 40 ≡ true) × (length info.confirmation_tag ≢ hash_length info.context.cipher_suite)
IsInfoFault asked info rules.ExtensionRepeated =
    (has_rule asked 40 ≡ true → length info.confirmation_tag ≡ hash_length info.context.cipher_suite)
    × (has_rule asked 41 ≡ true) × (has_each_once info.extensions ≡ false)
IsInfoFault asked info rule = ⊥

-- `IsStrictStartFault asked info t fault`: the fault is the first strict rule that is not met: by the GroupInfo itself, else
-- by its context and the tree `t`.
abbrev pub IsStrictStartFault : Rules → GroupInfo → RatchetTree → StrictFault → Type 0
IsStrictStartFault asked info t fault =
    (IsInfoFault asked info fault.rule × (fault.place ≡ None))
    ⊎ (InfoMeets asked info × IsStrictFault asked info.context t.tree fault)

-- `FailsStrict asked G info supplied fault`: the eight conditions hold, and a strict rule is not met, for this fault.
pub record FailsStrict
    (asked : Rules) (G : VerifyFn) (info : GroupInfo) (supplied : Option RatchetTree) (fault : StrictFault) : Type 0 where
  pub tree : RatchetTree
  pub signer : LeafNode
  pub has_signer : HasSigner G info supplied tree signer
  pub signed : is_info_signed G info signer ≡ true
  pub fails : IsStrictStartFault asked info tree fault

-- `IsStartFault asked G info supplied fault`: the fault is that of the first condition that fails, else the first strict rule
-- that is not met. `OutOfMemory` says nothing.
abbrev pub IsStartFault : Rules → VerifyFn → GroupInfo → Option RatchetTree → StartFault → Type 0
IsStartFault asked G info supplied UnsupportedVersion = info.context.version ≢ 1
IsStartFault asked G info supplied UnsupportedSuite = FailsSuite info.context
IsStartFault asked G info supplied NoTree = FailsTree info supplied
IsStartFault asked G info supplied RequirementsUnreadable =
    FailsRequirements info.context (UsesTree supplied info.extensions)
IsStartFault asked G info supplied (Tree fault) =
    FailsValid info.context (UsesTree supplied info.extensions) fault
IsStartFault asked G info supplied (Member fault) =
    FailsMembers G info.context (UsesTree supplied info.extensions) fault
IsStartFault asked G info supplied SignerNotMember = FailsSigner G info supplied
IsStartFault asked G info supplied InfoSignature = FailsSignature G info supplied
IsStartFault asked G info supplied (Strict fault) = FailsStrict asked G info supplied fault
IsStartFault asked G info supplied OutOfMemory = Unit {0}
