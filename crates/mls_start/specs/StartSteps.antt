-- What the steps of a start return. Internal: no public contract uses this.
use Rattle.std.specs.Prelude.{List, ℕ, Option, ◌≡◌, ◌≢◌}
use Rattle.mls_nodes.specs.declared.context.GroupContext.{GroupContext}
use Rattle.mls_tree.specs.RatchetTree.{RatchetTree}
use Rattle.mls_tree.specs.Tree.{Tree, leaf_at}
use Rattle.mls_check.specs.Signatures.{VerifyFn}
use Rattle.mls_msgs.specs.declared.group_info.GroupInfo.{GroupInfo}
use Rattle.mls_msgs.specs.declared.profile.Profile.{Profile}
use Rattle.mls_msgs.specs.declared.rules.Rules.{Rules}
use Rattle.mls_strict.specs.StrictTrees.{IsStrict, IsStrictFault}
use Rattle.mls_signatures.specs.SignaturesToVerify.{info_signatures}
use Rattle.mls_signatures.specs.declared.signature_to_verify.SignatureToVerify.{SignatureToVerify}
use Rattle.mls_follow.specs.AddedRules.{IsStrictRefused}
use Rattle.mls_follow.specs.Start.{IsStartFault, UsesTree}
use Rattle.mls_follow.specs.State.{State}
use Rattle.mls_follow.specs.declared.added_rules.StrictRefused.{StrictRefused}
use Rattle.mls_follow.specs.declared.added_rules.StrictRefused.TheVariants as stricts
use Rattle.mls_follow.specs.declared.start_fault.StartFault.{StartFault}
use Rattle.mls_follow.specs.declared.start_fault.StartFault.TheVariants as starts
use Rattle.mls_start.specs.Inputs.{OfInfo}
use Rattle.mls_start.specs.StartFindings.{Declines}
use Rattle.mls_start.specs.declared.finding.Finding.{Finding}
use Rattle.mls_start.specs.declared.finding.Finding.TheVariants.{StartRefused, StateNotStrict, TreeNotStrict, TreeValid}

-- An input is not decodable in the profile, and this is the finding, whatever the checker accepts and which strict rules are
-- asked.
abbrev pub IsUnread : Profile → List ℕ → Option (List ℕ) → Finding → Type 0
IsUnread profile info_bytes tree_bytes finding =
    (asked : Rules) (G : VerifyFn) → Declines G (OfInfo asked profile info_bytes tree_bytes) finding

-- No follower starts from a GroupInfo and a tree, and this is the finding.
pub record FailsStart (asked : Rules) (G : VerifyFn) (info : GroupInfo) (supplied : Option RatchetTree) (finding : Finding)
    : Type 0 where
  pub fault : StartFault
  pub not_out_of_memory : fault ≢ starts.OutOfMemory
  pub fails : IsStartFault asked G info supplied fault
  pub finding_is : finding ≡ StartRefused fault

-- The strict rules cannot be added to those of the state, and this is the finding.
pub record IsNotStrict (asked : Rules) (s : State) (finding : Finding) : Type 0 where
  pub refused : StrictRefused
  pub not_out_of_memory : refused ≢ stricts.OutOfMemory
  pub fails : IsStrictRefused asked s refused
  pub finding_is : finding ≡ StateNotStrict refused

-- The list is the signature of the GroupInfo, by the tree that the start uses.
abbrev pub AreInfoSignatures : GroupInfo → Option RatchetTree → List SignatureToVerify → Type 0
AreInfoSignatures info supplied signatures =
    (t : RatchetTree) → UsesTree supplied info.extensions t
    → signatures ≡ info_signatures info (leaf_at 0 t.tree info.signer)

-- What is found of a context and its valid tree: that they meet the strict rules, or the first fault.
abbrev pub SaysIfStrict : Rules → GroupContext → Tree → Finding → Type 0
SaysIfStrict asked context t (TreeNotStrict fault) = IsStrictFault asked context t fault
SaysIfStrict asked context t (TreeValid tree_hash) = IsStrict asked context t × (tree_hash ≡ context.tree_hash)
SaysIfStrict asked context t _ = ⊥
