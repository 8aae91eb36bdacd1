-- The report `check`: a line for each vector of a file, and their counts. Used by contracts.
use Rattle.std.specs.Prelude.{if◌then◌else◌, ℕ, ◌+◌, ◌==◌, List, [], ◌∷◌, ◌++◌, codes, Option, length, ◌≤◌, ◌≡◌, ◌⊎◌, ◌↔◌}
use Rattle.std.specs.Fmt.{decimal}
use Rattle.serde_json.specs.Data.{Data, Items, no_items, item}
use Rattle.mls_wire.specs.Limits.{input_limit}
use Rattle.mls_vectors.specs.VectorResults.{VectorResult, pass, fail, skip}
use Rattle.mls_show.specs.OneInputReport.{WritesReport, WritesPart}
use Rattle.mls_vectors.specs.TreeMath.{IsTreeMath}
use Rattle.mls_vectors.specs.TranscriptVectors.{IsTranscript}
use Rattle.mls_vectors.specs.TreeOperations.{IsTreeOperation}
use Rattle.mls_vectors.specs.TreeValidation.{IsOutcomeUnlessSkipped, IsTreeValidation}
use Rattle.mls_vectors.specs.TextWeight.{IsTooHeavy}
use Rattle.mls_vectors.specs.VectorFile.{HoldsVectors, HoldsNoVectors}
use Rattle.mls_show.specs.declared.check_kind.CheckKind.{CheckKind}
use Rattle.mls_show.specs.declared.check_kind.CheckKind.TheVariants as kind
use Rattle.mls_show.specs.declared.verdict.Verdict.{Verdict}
use Rattle.mls_show.specs.declared.verdict.Verdict.TheVariants.{Yes, No}

-- `IsOutcomeOf k d o`: `o` is the result of the vector `d` of a kind.
abbrev pub IsOutcomeOf : CheckKind → Data → VectorResult → Type 0
IsOutcomeOf kind.TreeMath d o = IsTreeMath d o
IsOutcomeOf kind.TreeValidation d o = IsOutcomeUnlessSkipped IsTreeValidation d o
IsOutcomeOf kind.TreeOperations d o = IsOutcomeUnlessSkipped IsTreeOperation d o
IsOutcomeOf kind.Transcript d o = IsOutcomeUnlessSkipped IsTranscript d o

-- `AreOutcomes k vectors outcomes`: these are the results of the vectors, one for each.
abbrev pub AreOutcomes : CheckKind → Items → List VectorResult → Type 0
AreOutcomes k no_items [] = Unit {0}
AreOutcomes k no_items (o ∷ os) = ⊥
AreOutcomes k (item d ds) [] = ⊥
AreOutcomes k (item d ds) (o ∷ os) = IsOutcomeOf k d o × AreOutcomes k ds os

-- `outcome_text o` is the text of a result.
abbrev pub outcome_text : VectorResult → List ℕ
outcome_text pass = codes " pass\n"
outcome_text (fail name) = codes " fail " ++ (name ++ codes "\n")
outcome_text skip = codes " skip\n"

-- `outcome_lines n outcomes` is the lines of results, the first of which has number n.
abbrev pub outcome_lines : ℕ → List VectorResult → List ℕ
outcome_lines n [] = []
outcome_lines n (o ∷ os) = (decimal n ++ outcome_text o) ++ outcome_lines (n + 1) os

-- How many vectors passed, failed, were skipped.
pub record Counts : Type 0 where
  pub passed : ℕ
  pub failed : ℕ
  pub skipped : ℕ

-- `add_result o c` is the counts with one more result.
abbrev pub add_result : VectorResult → Counts → Counts
add_result pass c = record c { passed = c.passed + 1 }
add_result (fail name) c = record c { failed = c.failed + 1 }
add_result skip c = record c { skipped = c.skipped + 1 }

-- `counted_all outcomes c` is the counts with further results.
abbrev pub counted_all : List VectorResult → Counts → Counts
counted_all [] c = c
counted_all (o ∷ os) c = counted_all os (add_result o c)

-- `counts outcomes` is the counts of results.
abbrev pub counts : List VectorResult → Counts
counts outcomes = counted_all outcomes (record { passed = 0; failed = 0; skipped = 0 })

-- `vector_counts_line c` is the last line.
abbrev pub vector_counts_line : Counts → List ℕ
vector_counts_line c =
    codes "passed " ++ (decimal c.passed
    ++ (codes " failed " ++ (decimal c.failed
    ++ (codes " skipped " ++ (decimal c.skipped ++ codes "\n")))))

-- `IsOutcomesReport outcomes text verdict`: the report is the lines of the results and the last line. The verdict is
-- Yes if none failed.
pub record IsOutcomesReport (outcomes : List VectorResult) (text : List ℕ) (verdict : Verdict)
    : Type 0 where
  pub text_is : text ≡ outcome_lines 1 outcomes ++ vector_counts_line (counts outcomes)
  pub verdict_is : verdict ≡ if (counts outcomes).failed == 0 then Yes else No

-- `IsVectorsReport k vectors text verdict`: the report of vectors.
pub record IsVectorsReport (k : CheckKind) (vectors : Items) (text : List ℕ) (verdict : Verdict)
    : Type 0 where
  pub outcomes : List VectorResult
  pub are_outcomes : AreOutcomes k vectors outcomes
  pub report : IsOutcomesReport outcomes text verdict

-- `IsNoVectorsReport text verdict`: the report if no vectors are read.
pub record IsNoVectorsReport (text : List ℕ) (verdict : Verdict) : Type 0 where
  pub text_is : text ≡ codes "vectors unreadable\n"
  pub verdict_is : verdict ≡ No

-- `IsReadReport k bytes text verdict`: the bytes hold vectors, and this is their report.
pub record IsReadReport (k : CheckKind) (bytes text : List ℕ) (verdict : Verdict) : Type 0 where
  pub bounded : length bytes ≤ input_limit
  pub light : ¬ IsTooHeavy bytes
  pub vectors : Items
  pub holds : HoldsVectors bytes vectors
  pub report : IsVectorsReport k vectors text verdict

-- `IsUnreadReport bytes text verdict`: the bytes hold no vectors, and the report says so.
pub record IsUnreadReport (bytes text : List ℕ) (verdict : Verdict) : Type 0 where
  pub no_vectors : HoldsNoVectors bytes
  pub report : IsNoVectorsReport text verdict

-- `IsCheckReport k bytes text verdict`: the report of a file of vectors of a kind, and its verdict.
abbrev pub IsCheckReport : CheckKind → List ℕ → List ℕ → Verdict → Type 0
IsCheckReport k bytes text verdict =
    IsUnreadReport bytes text verdict ⊎ IsReadReport k bytes text verdict

-- The report is the line of a file without vectors if and only if no vectors are read.
abbrev pub ReportsUnreadable : Type 0
ReportsUnreadable =
    (k : CheckKind) (bytes text : List ℕ) (verdict : Verdict)
    → IsCheckReport k bytes text verdict
    → ((text ≡ codes "vectors unreadable\n") ↔ HoldsNoVectors bytes)

-- `Checks k left0 left1 written0 written1 verdict`: the input was read to its end, and the report of its bytes was
-- written whole.
abbrev pub Checks : CheckKind → Option (List ℕ) → Option (List ℕ) → Option (List ℕ) → Option (List ℕ)
    → Verdict → Type 0
Checks k = WritesReport (IsCheckReport k)

-- `ChecksPart k left0 left1 written0 written1`: nothing was written, or a prefix of the report of an input that had
-- ended.
abbrev pub ChecksPart : CheckKind → Option (List ℕ) → Option (List ℕ) → Option (List ℕ)
    → Option (List ℕ) → Type 0
ChecksPart k = WritesPart (IsCheckReport k)
