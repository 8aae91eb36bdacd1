-- Vectors of the kind `tree-operations`: a tree before and after one proposal (RFC 9420, 12.1 and 12.3). `d` is a
-- vector. Used by contracts.
use Rattle.std.specs.Prelude.{ℕ, ◌<◌, List, [], ◌∷◌, codes, Some, IsSome, ◌≡◌, ◌⊎◌}
use Rattle.serde_json.specs.Data.{Data}
use Rattle.mls_nodes.specs.RatchetTreeEncoding.{ratchet_tree, trimmed}
use Rattle.mls_msgs.specs.Profile.{proposal_in}
use Rattle.mls_msgs.specs.declared.framed_content.Sender.{Sender}
use Rattle.mls_msgs.specs.declared.framed_content.Sender.TheVariants.{Member}
use Rattle.mls_msgs.specs.declared.profile.Profile.TheVariants.{Members}
use Rattle.mls_msgs.specs.declared.proposal.Proposal.{Proposal}
use Rattle.mls_tree.specs.RatchetTree.{RatchetTree}
use Rattle.mls_tree.specs.Tree.{Tree, listing}
use Rattle.mls_tree.specs.TreeHash.{tree_hash}
use Rattle.mls_hash.specs.SuiteHash.{hash_of}
use Rattle.mls_apply.specs.AppliedList.{outcome, AppliedTree}
use Rattle.mls_apply.specs.declared.list_item.ListItem.{ListItem}
use Rattle.mls_vectors.specs.VectorResults.{Check, check, VectorResult, IsVectorResult, IsEarlyFailure}
use Rattle.mls_vectors.specs.TreeValidation.{HasSuite, HasTreeUnder}
use Rattle.mls_vectors.specs.VectorFile.{whole_under, bytes_under}

-- `HasProposal d p`: the proposal of the vector can be read in the members' profile.
pub record HasProposal (d : Data) (p : Proposal) : Type 0 where
  pub bytes : List ℕ
  pub found : bytes_under (codes "proposal") d ≡ Some bytes
  pub is_proposal : proposal_in Members p ≡ Some bytes

-- `HasSender d sender`: the vector has this leaf index of the proposal's sender, who is a member.
pub record HasSender (d : Data) (sender : Sender) : Type 0 where
  pub index : ℕ
  pub member : sender ≡ Member index
  pub number : whole_under (codes "proposal_sender") d ≡ Some index
  pub fits : index < 4294967296

-- `HasTreeHash H name t d`: the vector has the tree hash of the tree under a name (RFC 9420, 7.8).
pub record HasTreeHash (H : List ℕ → List ℕ) (name : List ℕ) (t : Tree) (d : Data) : Type 0 where
  pub hash : List ℕ
  pub hashed : tree_hash H 0 t ≡ Some hash
  pub found : bytes_under name d ≡ Some hash

-- `HasTreeBytes name t d`: the vector has the encoding of the tree under a name (RFC 9420, 12.4.3.3). A tree whose
-- nodes are all blank has none.
pub record HasTreeBytes (name : List ℕ) (t : Tree) (d : Data) : Type 0 where
  pub bytes : List ℕ
  pub encoded : ratchet_tree (trimmed (listing t)) ≡ Some bytes
  pub found : bytes_under name d ≡ Some bytes

-- `operand_checks d` is the first checks: what the vector has can be read.
abbrev pub operand_checks : Data → List Check
operand_checks d =
    check (codes "cipher_suite") ((suite : ℕ) × HasSuite d suite)
    ∷ check (codes "tree_before") ((t : RatchetTree) × HasTreeUnder (codes "tree_before") d t)
    ∷ check (codes "proposal") ((p : Proposal) × HasProposal d p)
    ∷ check (codes "proposal_sender") ((sender : Sender) × HasSender d sender)
    ∷ []

-- `Operands d`: what the vector has.
pub record Operands (d : Data) : Type 0 where
  pub suite : ℕ
  pub has_suite : HasSuite d suite
  pub tree : RatchetTree
  pub has_tree : HasTreeUnder (codes "tree_before") d tree
  pub item : ListItem
  pub has_proposal : HasProposal d item.proposal
  pub has_sender : HasSender d item.sender

-- `apply_checks H t x d` is the next checks: the tree hash, and that the proposal can be applied, alone (RFC 9420,
-- 12.3).
abbrev pub apply_checks : (List ℕ → List ℕ) → Tree → ListItem → Data → List Check
apply_checks H t x d =
    check (codes "tree_hash_before") (HasTreeHash H (codes "tree_hash_before") t d)
    ∷ check (codes "apply") (IsSome (outcome (x ∷ []) t))
    ∷ []

-- `after_checks H t d` is the last checks, of the tree after the proposal.
abbrev pub after_checks : (List ℕ → List ℕ) → Tree → Data → List Check
after_checks H t d =
    check (codes "tree_after") (HasTreeBytes (codes "tree_after") t d)
    ∷ check (codes "tree_hash_after") (HasTreeHash H (codes "tree_hash_after") t d)
    ∷ []

-- `IsAppliedOutcome H t x d o`: the result of a vector whose proposal can be applied.
pub record IsAppliedOutcome (H : List ℕ → List ℕ) (t : Tree) (x : ListItem) (d : Data)
    (o : VectorResult) : Type 0 where
  pub before : HasTreeHash H (codes "tree_hash_before") t d
  pub after : AppliedTree
  pub applied : outcome (x ∷ []) t ≡ Some after
  pub outcome_is : IsVectorResult (after_checks H after.tree d) o

-- `IsItemOutcome H t x d o`: the result of a vector by what it has.
abbrev pub IsItemOutcome : (List ℕ → List ℕ) → Tree → ListItem → Data → VectorResult → Type 0
IsItemOutcome H t x d o = IsEarlyFailure (apply_checks H t x d) o ⊎ IsAppliedOutcome H t x d o

-- `IsReadOutcome d o`: the result of a vector that can be read.
pub record IsReadOutcome (d : Data) (o : VectorResult) : Type 0 where
  pub operands : Operands d
  pub outcome_is : IsItemOutcome (hash_of operands.suite) operands.tree.tree operands.item d o

-- `IsTreeOperation d o`: the result of a vector that is not skipped.
abbrev pub IsTreeOperation : Data → VectorResult → Type 0
IsTreeOperation d o = IsEarlyFailure (operand_checks d) o ⊎ IsReadOutcome d o
