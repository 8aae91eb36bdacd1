use Rattle.mls_c.specs.GroupParts.{PutsEncoding}
use Rattle.mls_c.proofs.group_follower.GroupFollower.put_context.Goals as goal

pub returns-in-Ok : goal.returns-in-Ok
returns-in-Ok c = PutsEncoding.puts c.in-Ok.bytes.items (rw c.context.ensures at c.in-Ok.ensures) (rw c.as_slice.ensures.value at c.put_sized.ensures)
