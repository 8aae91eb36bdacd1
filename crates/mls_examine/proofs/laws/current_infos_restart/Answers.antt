use Rattle.mls_examine.proofs.CurrentStarts.{current_infos_restart, current_infos_start_alone}
use Rattle.mls_examine.proofs.laws.current_infos_restart.Goals as goal

pub returns : goal.returns
returns c = record { restarts = current_infos_restart; alone = current_infos_start_alone }
