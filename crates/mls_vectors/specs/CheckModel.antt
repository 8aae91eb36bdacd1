-- The models of the values with which `check` is implemented. Internal: no public contract uses this.
use Rattle.std.specs.Prelude.{true, ℕ, List, [], ◌∷◌, codes, Option, Some, None, MatchOption, slice_get, ◌≡◌, ◌≢◌}
use Rattle.serde_json.specs.Data.{Data}
use Rattle.mls_vectors.specs.CheckReport.{Counts, IsVectorsReport, IsNoVectorsReport}
use Rattle.mls_tree.specs.RatchetTree.{RatchetTree}
use Rattle.mls_tree.specs.TreeDecoding.{IsTreeOf, IsNoTree}
use Rattle.mls_tree.specs.Tree.{Tree}
use Rattle.mls_msgs.specs.Layout.{is_commit}
use Rattle.mls_msgs.specs.Profile.{authenticated_in, proposal_in}
use Rattle.mls_msgs.specs.declared.profile.Profile.TheVariants.{Members}
use Rattle.mls_msgs.specs.declared.authenticated.AuthenticatedParts.{AuthenticatedParts}
use Rattle.mls_vectors.specs.TranscriptVectors.{HasCommit}
use Rattle.mls_msgs.specs.declared.proposal.Proposal.{Proposal}
use Rattle.mls_apply.specs.AppliedList as operations
use Rattle.mls_apply.specs.declared.list_item.ListItem.{ListItem}
use Rattle.mls_apply.specs.declared.list_application.Applied.{Applied}
use Rattle.mls_vectors.specs.TreeOperations.{HasProposal}
use Rattle.mls_vectors.specs.TreeValidation.{HasSuite, HasTreeUnder, IsSkipped}
use Rattle.mls_vectors.specs.VectorFile.{bytes_of, vectors_of}
use Rattle.mls_vectors.specs.VectorResults as outcomes
use Rattle.mls_vectors.specs.TreeMath.{Relation, IsLeftOrNone, IsRightOrNone, IsParentOrNone, IsSiblingOrNone}
use Rattle.mls_vectors.specs.declared.vector_result.VectorResult.{VectorResult}
use Rattle.mls_vectors.specs.declared.vector_result.VectorResult.TheVariants.{Pass, Fail, Skip}
use Rattle.mls_show.specs.declared.check_kind.CheckKind.{CheckKind}
use Rattle.mls_vectors.specs.declared.report_lines.Counts as code
use Rattle.mls_show.specs.declared.verdict.Verdict.{Verdict}
use Rattle.mls_vectors.specs.declared.suite.SuiteMember.{SuiteMember}
use Rattle.mls_vectors.specs.declared.suite.SuiteMember.TheVariants as suites
use Rattle.mls_vectors.specs.declared.tree_math.Column.{Column}
use Rattle.mls_vectors.specs.declared.tree_math.Column.TheVariants as columns

-- The result in the definitions for a result of the implementation.
abbrev pub outcome_of : VectorResult → outcomes.VectorResult
outcome_of Pass = outcomes.pass
outcome_of (Fail name) = outcomes.fail name.now
outcome_of Skip = outcomes.skip

-- The relation of an array of the implementation, and its name.
abbrev pub relation : Column → Relation
relation columns.Left = IsLeftOrNone
relation columns.Right = IsRightOrNone
relation columns.Parent = IsParentOrNone
relation columns.Sibling = IsSiblingOrNone

abbrev pub column_name : Column → List ℕ
column_name columns.Left = codes "left"
column_name columns.Right = codes "right"
column_name columns.Parent = codes "parent"
column_name columns.Sibling = codes "sibling"

-- The counts in the definitions for those of the implementation.
abbrev pub counts_of : code.Counts → Counts
counts_of c = record { passed = c.passed; failed = c.failed; skipped = c.skipped }

-- `IsValueReport k d text verdict`: the report of a value.
abbrev pub IsValueReport : CheckKind → Data → List ℕ → Verdict → Type 0
IsValueReport k d text verdict =
    MatchOption (vectors_of d) (IsNoVectorsReport text verdict)
    (λ vectors. IsVectorsReport k vectors text verdict)

-- `SaysSuite d member`: the cipher suite that the vector names.
abbrev pub SaysSuite : Data → SuiteMember → Type 0
SaysSuite d (suites.Followed suite) = (¬ IsSkipped d) × HasSuite d suite
SaysSuite d suites.Other = IsSkipped d
SaysSuite d suites.Missing = (¬ IsSkipped d) × ((suite : ℕ) → ¬ HasSuite d suite)

-- `ReadsTreeOf bytes t`: the bytes decode as this tree, or as none.
abbrev pub ReadsTreeOf : List ℕ → Option RatchetTree → Type 0
ReadsTreeOf bytes None = IsNoTree bytes
ReadsTreeOf bytes (Some t) = IsTreeOf bytes t

-- `FindsTree name d t`: the vector has this tree under the name, or none.
abbrev pub FindsTree : List ℕ → Data → Option RatchetTree → Type 0
FindsTree name d None = (t : RatchetTree) → ¬ HasTreeUnder name d t
FindsTree name d (Some t) = HasTreeUnder name d t

-- `IsKeptHash hashes p d`: the entry is the cached hash at node index p.
pub record IsKeptHash (hashes : List (List ℕ)) (p : ℕ) (d : Data) : Type 0 where
  pub hash : List ℕ
  pub cached : slice_get hashes p ≡ Some hash
  pub same : bytes_of d ≡ Some hash

-- `ReadsProposalOf bytes p`: the bytes decode as this proposal, or as none.
abbrev pub ReadsProposalOf : List ℕ → Option Proposal → Type 0
ReadsProposalOf bytes None = (p : Proposal) → proposal_in Members p ≢ Some bytes
ReadsProposalOf bytes (Some p) = proposal_in Members p ≡ Some bytes

-- `FindsProposal d p`: the vector has this proposal, or none.
abbrev pub FindsProposal : Data → Option Proposal → Type 0
FindsProposal d None = (p : Proposal) → ¬ HasProposal d p
FindsProposal d (Some p) = HasProposal d p

-- `AppliesItem x t r`: the tree after one proposal, or none if it can't be applied.
abbrev pub AppliesItem : ListItem → Tree → Option Applied → Type 0
AppliesItem x t None = operations.outcome (x ∷ []) t ≡ None
AppliesItem x t (Some a) =
    operations.outcome (x ∷ []) t ≡ Some (operations.applied_tree a.tree.tree a.added)

-- `ReadsCommitOf bytes a`: the bytes decode as this commit, or as none.
abbrev pub ReadsCommitOf : List ℕ → Option AuthenticatedParts → Type 0
ReadsCommitOf bytes None =
    (a : AuthenticatedParts) → authenticated_in Members a ≡ Some bytes
    → is_commit a.content.content ≢ true
ReadsCommitOf bytes (Some a) =
    (authenticated_in Members a ≡ Some bytes) × (is_commit a.content.content ≡ true)

-- `FindsCommit d a`: the vector has this commit, or none.
abbrev pub FindsCommit : Data → Option AuthenticatedParts → Type 0
FindsCommit d None = (a : AuthenticatedParts) → ¬ HasCommit d a
FindsCommit d (Some a) = HasCommit d a
