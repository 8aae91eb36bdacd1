use Rattle.std.proofs.Common.{◌≢◌, ◌<◌, ◌++◌, ℕ, List, [], ◌∷◌, slice_index, sym, ap, ◌∙◌, inl, inr, codes, arith}
use Rattle.std.specs.Fmt.{digits}
use Rattle.mls_vectors.specs.CheckReport.{outcome_lines, counts, vector_counts_line}
use Rattle.mls_vectors.specs.VectorResults.{VectorResult}
use Rattle.mls_vectors.proofs.laws.unreadable_is_reported.Goals as goal

-- a lower letter is another one
other_letter : (a b : ℕ) → a < b → a ≢ b
other_letter a b low e = omega (arith, low, e)

-- the lines of outcomes begin with a number, and the last one with another letter
other_text : (outcomes : List VectorResult) → outcome_lines 1 outcomes ++ vector_counts_line (counts outcomes) ≢ codes "vectors unreadable\n"
unfolding digits
other_text [] e = other_letter 112 118 (omega arith) (ap (λ (text : List ℕ). slice_index text 0) e)
other_text (o ∷ os) e = other_letter 49 118 (omega arith) (ap (λ (text : List ℕ). slice_index text 0) e)

pub returns : goal.returns
returns c = λ k bytes text verdict report.
    elim report [
      | inl unread ↦ (λ e. unread.no_vectors, λ none. unread.report.text_is)
      | inr read ↦ (
        λ e. absurd (other_text read.report.outcomes (sym read.report.report.text_is ∙ e)),
        λ none. elim none [
          | inl long ↦ absurd (omega (arith, long, read.bounded))
          | inr unread ↦ elim unread [
            | inl heavy ↦ absurd (read.light heavy)
            | inr unheld ↦ absurd (unheld read.vectors read.holds)
          ]
        ],
      )
    ]
