use Rattle.std.proofs.Common.{length, ◌≡◌, ◌-◌, ◌%◌, ◌^◌, ◌<◌, ◌≤◌, drop}
use Rattle.mls_curve.specs.Curves.{big_endian}
use Rattle.mls_curve.specs.Limbs.{value_below}
use Rattle.mls_curve.proofs.limbs.from_bytes.Given as goal

abbrev pub invariant-loop-i : goal.invariant-loop-i
invariant-loop-i l =
    (l.i ≤ length l.bytes % 8) × (value_below l.limbs l.len < 256 ^ l.i)
    × (big_endian (value_below l.limbs l.len) (drop l.i l.bytes) ≡ big_endian 0 l.bytes)

abbrev pub decreases-loop-i : goal.decreases-loop-i
decreases-loop-i l = length l.bytes % 8 - l.i

abbrev pub invariant-loop-i-2 : goal.invariant-loop-i-2
invariant-loop-i-2 l =
    (l.i ≤ length l.bytes) × ((length l.bytes - l.i) % 8 ≡ 0) × (value_below l.limbs l.len < 256 ^ l.i)
    × (big_endian (value_below l.limbs l.len) (drop l.i l.bytes) ≡ big_endian 0 l.bytes)

abbrev pub decreases-loop-i-2 : goal.decreases-loop-i-2
decreases-loop-i-2 l = length l.bytes - l.i
