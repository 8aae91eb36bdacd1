use Rattle.mls_follow.proofs.RisingRuns.{rising_extends, rising_fold, rising_accepted, accepted_run, recoveries_accept}
use Rattle.mls_follow.proofs.laws.rising_runs_are_folds.Goals as goal

pub returns : goal.returns
returns c = record { extend = rising_extends; folds = rising_fold; accepted = rising_accepted; make_runs = accepted_run; recoveries = recoveries_accept }
