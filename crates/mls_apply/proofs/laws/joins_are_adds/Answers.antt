use Rattle.mls_apply.proofs.Joining.{seats_sound, joins_merge, joins_expect, joins_count, joins_resolve}
use Rattle.mls_apply.proofs.laws.joins_are_adds.Goals as goal

pub returns : goal.returns
returns c = record { preserved = seats_sound; merged = joins_merge; hashes = joins_expect; counts = joins_count; recipients = joins_resolve }
