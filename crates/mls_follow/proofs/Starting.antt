-- What each check of a start says of the whole start.
use Rattle.std.proofs.Common.{◌≡◌, ◌≢◌, ◌↔◌, ℕ, List, false, Option, Some, None, refl, sym, subst}
use Rattle.mls_nodes.specs.declared.required_capabilities.RequiredCapabilities.{RequiredCapabilities}
use Rattle.mls_nodes.specs.declared.leaf.LeafNode.{LeafNode}
use Rattle.mls_tree.specs.RatchetTree.{RatchetTree}
use Rattle.mls_tree.specs.Tree.{leaf_at}
use Rattle.mls_check.proofs.GroupTrees.{members_too, requirements_too, invalid_too, strangers_too}
use Rattle.mls_check.specs.GroupTree.{IsSupportedContext, HasMembers, FailsSuite, IsGroupTreeFault}
use Rattle.mls_check.specs.Signatures.{VerifyFn}
use Rattle.mls_check.specs.declared.group_tree.GroupTreeFault.{GroupTreeFault}
use Rattle.mls_check.specs.declared.group_tree.GroupTreeFault.TheVariants as groups
use Rattle.mls_msgs.specs.declared.group_info.GroupInfo.{GroupInfo}
use Rattle.mls_msgs.specs.declared.profile.Profile.{Profile}
use Rattle.mls_strict.specs.StrictTrees.{IsStrict}
use Rattle.mls_follow.specs.Start.{UsesTree, InfoMeets, IsStart, initial_state, IsStartFault, is_info_signed, info_interim}
use Rattle.mls_follow.specs.StartInternal.{IsSignedIn, StartsWith, FailsWith, FailsSigned, FailsStrictly, start_fault_of}
use Rattle.mls_follow.specs.declared.start_fault.StartFault.{StartFault}
use Rattle.mls_follow.specs.declared.start_fault.StartFault.TheVariants.{UnsupportedVersion, UnsupportedSuite, NoTree, RequirementsUnreadable, Tree, Member, SignerNotMember, InfoSignature, Strict, OutOfMemory}
use Rattle.mls_msgs.specs.declared.rules.Rules.{Rules}

-- a later fault of an info that is followed is neither of the first two
module _ (asked : Rules) (G : VerifyFn) (info : GroupInfo) (supplied : Option RatchetTree) (fault : StartFault) (followed : IsSupportedContext info.context) (h : IsStartFault asked G info supplied fault) where
  pub version_followed : (fault ≡ UnsupportedVersion) ↔ (info.context.version ≢ 1)
  version_followed = (λ e. subst (λ (f : StartFault). IsStartFault asked G info supplied f) e h, λ other. absurd (other followed.version))

  pub suite_followed : (fault ≡ UnsupportedSuite) ↔ FailsSuite info.context
  suite_followed = (λ e. subst (λ (f : StartFault). IsStartFault asked G info supplied f) e h, λ fails. absurd (fails.unsupported followed.suite))

-- the signer's leaf isn't set
pub unset : (asked : Rules) (G : VerifyFn) (info : GroupInfo) (t : RatchetTree) → leaf_at 0 t.tree info.signer ≡ None → FailsSigned asked G info t SignerNotMember
unset asked G info t blank supplied required h = record { tree = t; required = required; has_members = h; blank = blank }

-- it has not signed
pub unsigned : (asked : Rules) (G : VerifyFn) (info : GroupInfo) (t : RatchetTree) (signer : LeafNode) → leaf_at 0 t.tree info.signer ≡ Some signer
    → is_info_signed G info signer ≡ false → FailsSigned asked G info t InfoSignature
unsigned asked G info t signer set bad supplied required h = record {
  tree = t;
  signer = signer;
  has_signer = record { required = required; has_members = h; set = set };
  unsigned = bad;
}

-- it has, and a strict rule is not met
pub strict_fails : (asked : Rules) (G : VerifyFn) (info : GroupInfo) (t : RatchetTree) (fault : StartFault) → IsSignedIn G info t
    → FailsStrictly asked info t fault → FailsSigned asked G info t fault
strict_fails asked G info t (Strict fault) signed h supplied required members = record {
  tree = t;
  signer = signed.signer;
  has_signer = record { required = required; has_members = members; set = signed.set };
  signed = signed.signed;
  fails = h;
}
strict_fails asked G info t OutOfMemory signed h supplied required members = tt
strict_fails asked G info t UnsupportedVersion signed h supplied required members = absurd h
strict_fails asked G info t UnsupportedSuite signed h supplied required members = absurd h
strict_fails asked G info t NoTree signed h supplied required members = absurd h
strict_fails asked G info t RequirementsUnreadable signed h supplied required members = absurd h
strict_fails asked G info t (Tree _) signed h supplied required members = absurd h
strict_fails asked G info t (Member _) signed h supplied required members = absurd h
strict_fails asked G info t SignerNotMember signed h supplied required members = absurd h
strict_fails asked G info t InfoSignature signed h supplied required members = absurd h

module _ (asked : Rules) (G : VerifyFn) (info : GroupInfo) (t : RatchetTree) where
  module _ (supplied : Option RatchetTree) (uses : UsesTree supplied info.extensions t) where
    -- a tree that is this one is the info's
    too : (u : RatchetTree) → u ≡ t → UsesTree supplied info.extensions u
    too u e = subst (UsesTree supplied info.extensions) (sym e) uses

  -- the tree isn't the group's, or its leaves are no members
  pub tree_fails : (fault : GroupTreeFault) → IsGroupTreeFault G info.context (λ u. u ≡ t) fault → FailsWith asked G info t (start_fault_of fault)
  tree_fails groups.RequirementsUnreadable h supplied uses =
      requirements_too G info.context (λ u. u ≡ t) (UsesTree supplied info.extensions) (too supplied uses) h
  tree_fails (groups.Tree fault) h supplied uses = invalid_too G info.context (λ u. u ≡ t) (UsesTree supplied info.extensions) (too supplied uses) fault h
  tree_fails (groups.Member fault) h supplied uses = strangers_too G info.context (λ u. u ≡ t) (UsesTree supplied info.extensions) (too supplied uses) fault h
  tree_fails groups.OutOfMemory h supplied uses = tt

  module _ (required : RequiredCapabilities) (h : HasMembers G info.context (λ u. u ≡ t) t required) where
    have_members : (supplied : Option RatchetTree) → UsesTree supplied info.extensions t → HasMembers G info.context (UsesTree supplied info.extensions) t required
    have_members supplied uses = members_too G info.context (λ u. u ≡ t) (UsesTree supplied info.extensions) (too supplied uses) t required h

    -- the signer has not signed
    pub signature_fails : (fault : StartFault) → FailsSigned asked G info t fault → FailsWith asked G info t fault
    signature_fails fault fails supplied uses = fails supplied required (have_members supplied uses)

    -- all is in order
    pub starts : (interim : List ℕ) → IsSignedIn G info t → InfoMeets asked info → IsStrict asked info.context t.tree → info_interim info ≡ Some interim
        → StartsWith asked G info t interim
    starts interim signed meets strict hashed profile supplied uses = record {
      tree = t;
      signer = signed.signer;
      has_signer = record { required = required; has_members = have_members supplied uses; set = signed.set };
      signed = signed.signed;
      strict_info = meets;
      strict = strict;
      interim = interim;
      hashed = hashed;
      state = refl;
    }

-- what comes of a tree comes of any that is equal to it
pub starts_again : (asked : Rules) (G : VerifyFn) (info : GroupInfo) (t u : RatchetTree) (interim : List ℕ) → t ≡ u → StartsWith asked G info t interim → StartsWith asked G info u interim
starts_again asked G info t u interim e h = subst (λ (v : RatchetTree). StartsWith asked G info v interim) e h

pub fails_again : (asked : Rules) (G : VerifyFn) (info : GroupInfo) (t u : RatchetTree) (fault : StartFault) → t ≡ u → FailsWith asked G info t fault → FailsWith asked G info u fault
fails_again asked G info t u fault e h = subst (λ (v : RatchetTree). FailsWith asked G info v fault) e h

-- a start in a tree is one in any that is equal to it
pub start_again : (asked : Rules) (profile : Profile) (G : VerifyFn) (info : GroupInfo) (supplied : Option RatchetTree) (t u : RatchetTree) (interim : List ℕ) → u ≡ t
    → IsStart asked profile G info supplied (initial_state asked profile info t interim) → IsStart asked profile G info supplied (initial_state asked profile info u interim)
start_again asked profile G info supplied t u interim e h = subst (λ v. IsStart asked profile G info supplied (initial_state asked profile info v interim)) (sym e) h
