use Rattle.mls_examine.proofs.LaterStarts.{later_infos_start}
use Rattle.mls_examine.proofs.laws.later_infos_start.Goals as goal

pub returns : goal.returns
returns c = later_infos_start
