use Rattle.std.proofs.Common.{take}
use Rattle.std.specs.Int.{w32}
use Rattle.mls_wire.specs.Encoding.{items, number}
use Rattle.mls_hash.specs.HasherModel.{HoldsMore}
use Rattle.mls_hash.specs.WithoutLeaves.{without}
use Rattle.mls_hash.proofs.hash_input.feed_kept.Given as goal

abbrev pub invariant-loop-number : goal.invariant-loop-number
invariant-loop-number l = HoldsMore (items (number w32) (without l.left_out (take l.number-index l.indices))) l.initial.hasher l.hasher
