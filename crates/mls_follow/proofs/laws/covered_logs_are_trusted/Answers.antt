use Rattle.mls_follow.proofs.CoveredLogs.{covered_starts, covered_faults, covered_answers, covered_runs, covered_logs, one_run, receipts_cover}
use Rattle.mls_follow.proofs.laws.covered_logs_are_trusted.Goals as goal

pub returns : goal.returns
returns c = record { starts = covered_starts; faults = covered_faults; answers = covered_answers; runs = covered_runs; logs = covered_logs; one = one_run; receipts = receipts_cover }
