use Rattle.std.proofs.Common.{◌≡◌, ◌+◌, ◌++◌, map, drop, string_bytes}
use Rattle.mls_vectors.specs.CheckReport as lines
use Rattle.mls_vectors.specs.CheckModel.{outcome_of}
use Rattle.mls_vectors.proofs.report_lines.outcome_lines.Given as goal

-- the lines so far, and those of the outcomes still to come
abbrev pub invariant-loop-index : goal.invariant-loop-index
invariant-loop-index l = string_bytes l.text ++ lines.outcome_lines (l.index + 1) (map outcome_of (drop l.index l.outcomes)) ≡ lines.outcome_lines 1 (map outcome_of l.outcomes)
