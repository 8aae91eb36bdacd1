use Rattle.mls_apply.proofs.Beside.{merged-beside}
use Rattle.mls_apply.proofs.Merging.{reached_merge, sound_merge}
use Rattle.mls_apply.proofs.laws.merged_parents_are_valid.Goals as goal

pub returns : goal.returns
returns c = record { parents_valid = reached_merge; others = λ H t new i x keys inside e. merged-beside H t new i x keys inside e; preserved = sound_merge }
