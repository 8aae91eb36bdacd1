-- A handle may go to another thread: what it owns is a box with a follower, or nothing.
use Rattle.std.specs.Prelude.{Option, Some, None}
use mir.Raw.{raw}
use base.Shift.{Keyless}
use denote.Memory.{lone}
use denote.RawPtr.{Ptr, block_ptr, null_ptr}
use denote.Struct.Struct.{exits_of}
use denote.Struct.Owning.{shape, fields, to}
use denote.Param.Send.{IsSend, AllSend, owning_send, struct_send, sendable}
use Rattle.std.proofs.Crossing as heap
use Rattle.std_alloc.proofs.SendSync.{quiet, lies}
use Rattle.std.proofs.alloc.Global.TheSendSync as handle
use Rattle.std.specs.Global.{Global}
use Rattle.mls_c.specs.contracts.group_follower.GroupFollower as GroupFollower
use Rattle.mls_c.proofs.group_follower.GroupFollower.TheSendSync.{the_send as follower}
use Rattle.mls_c.specs.declared.group_follower.GroupFollower as declared
use Rattle.mls_c.specs.HandleOwnership.{handle_owns}
use Rattle.mls_c.specs.contracts.follower_handle.FollowerHandle.{the_row, the_type}

owned : (alloc : Global) (p : Ptr) (v : Option declared.GroupFollower) → Keyless (handle_owns alloc p v)
owned alloc null_ptr None = tt
owned alloc (block_ptr b o) (Some x) = (lies GroupFollower.the_row follower (block_ptr b o) x, heap.frees.frees alloc (raw (lone GroupFollower.the_row.mir)) (block_ptr b o))
owned alloc null_ptr (Some x) = tt
owned alloc (block_ptr b o) None = tt

pub send : IsSend the_row
send =
    let all : AllSend (fields the_type) = (search sendable, (handle.the_field_send, tt)) in
    owning_send the_type all (λ d. owned d.alloc d.at d.value)
    (λ k. quiet (to the_type) (exits_of k (fields the_type)) ((struct_send (shape the_type) all).leaving k))
