use Rattle.mls_apply.proofs.CountedKeys.{merges_take_each_key, hashes_take_each_key}
use Rattle.mls_apply.proofs.laws.keys_are_counted.Goals as goal

pub returns : goal.returns
returns c = record { merged = merges_take_each_key; hashes = hashes_take_each_key }
