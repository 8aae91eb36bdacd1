use Rattle.mls_c.specs.Messages.{PutsStateFile}
use Rattle.mls_c.proofs.group_follower.GroupFollower.store.Goals as goal

pub returns-in-Ok : goal.returns-in-Ok
returns-in-Ok c = PutsStateFile.stores c.in-Ok.bytes.items c.in-Ok.ensures.encoded (rw c.as_slice.ensures.value at c.put_sized.ensures)
