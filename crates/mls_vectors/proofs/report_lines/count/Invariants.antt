use Rattle.std.proofs.Common.{◌≡◌, ◌+◌, map, drop}
use Rattle.mls_vectors.specs.CheckReport as lines
use Rattle.mls_vectors.specs.CheckModel.{outcome_of, counts_of}
use Rattle.mls_vectors.proofs.report_lines.count.Given as goal

-- the counts so far, with the outcomes still to come
abbrev pub invariant-loop-outcome : goal.invariant-loop-outcome
invariant-loop-outcome l = record {
  all : lines.counted_all (map outcome_of (drop l.outcome-index l.outcomes)) (counts_of l.counts) ≡ lines.counts (map outcome_of l.outcomes);
  so_far : l.counts.passed + l.counts.failed + l.counts.skipped ≡ l.outcome-index;
}
