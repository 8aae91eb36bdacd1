use Rattle.mls_apply.proofs.RepeatedAdds.{repeated_adds_repeat_keys}
use Rattle.mls_apply.proofs.laws.repeated_adds_repeat_keys.Goals as goal

pub returns : goal.returns
returns c = repeated_adds_repeat_keys
