-- What a handle owns: its pointer is null and it has no follower, or it is a box with the
-- follower. Internal: no public contract uses this, but the type of a handle does.
use Rattle.std.specs.Prelude.{Option, Some, None}
use Rattle.std.specs.Coded.{Coded, coded_option}
use base.Fml.{Fml, ftrue, ffalse}
use denote.RawPtr.{Ptr, block_ptr, null_ptr}
use Rattle.std.specs.Box.Ownership.{box_owns}
use Rattle.std.specs.Global.{Global}
use Rattle.std.specs.contracts.impls.GlobalAllocator.TheImpl.{ghosts}
use Rattle.mls_c.specs.contracts.group_follower.GroupFollower.{the_row}
use Rattle.mls_c.specs.declared.group_follower.GroupFollower.{GroupFollower}

-- `handle_owns alloc at value` is what a handle with the pointer `at` and the follower `value` owns: a box with the
-- follower, and the right to free it; nothing if there is no follower.
abbrev pub handle_owns : Global → Ptr → Option GroupFollower → Fml
handle_owns alloc null_ptr None = ftrue
handle_owns alloc (block_ptr b o) (Some x) = box_owns (ghosts.dealloc_token alloc) the_row (block_ptr b o) x
handle_owns alloc at value = ffalse

-- `held_coded` is the code of what a handle has.
abbrev pub held_coded : Coded (Option GroupFollower)
held_coded = coded_option the_row.coded
