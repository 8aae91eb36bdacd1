use Rattle.std.proofs.Common.{◌≡◌, ◌≤◌, take, length}
use Rattle.mls_hash.specs.WithoutLeaves.{without}
use Rattle.mls_hash.proofs.hash_input.count_kept.Given as goal

abbrev pub invariant-loop-number : goal.invariant-loop-number
invariant-loop-number l = record {
  count : l.kept ≡ length (without l.left_out (take l.number-index l.indices));
  low : l.kept ≤ l.number-index;
}
