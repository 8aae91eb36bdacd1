use Rattle.mls_follow.proofs.Storing.{no_short_file}
use Rattle.mls_follow.proofs.stored_state.file_of.Goals as goal

pub returns-in-Err-Wire : goal.returns-in-Err-Wire
returns-in-Err-Wire c =
    rw c.too_long-in-Err-Wire.ensures (no_short_file c.args.content (rw c.in-Err-Wire.field-0-is at c.in-Err-Wire.ensures).0)
