use Rattle.std.proofs.Common.{◌≡◌, ◌++◌, ◌+◌, ◌≤◌, Some, length, map}
use Rattle.std.specs.Vec.{vec_len}
use Rattle.mls_check.specs.Receipts.{receipt_lines, digest_of, bad_line_from}
use Rattle.mls_check.proofs.receipts.digests_of.Given as goal

abbrev pub invariant-loop-rest : goal.invariant-loop-rest
invariant-loop-rest l = record {
  digests : map digest_of (receipt_lines l.initial.rest) ≡ map (λ digest. Some digest) l.digests.items ++ map digest_of (receipt_lines l.rest);
  bad : bad_line_from 1 (receipt_lines l.initial.rest) ≡ bad_line_from (vec_len l.digests + 1) (receipt_lines l.rest);
  within : vec_len l.digests + length l.rest ≤ 268435456;
}

abbrev pub decreases-loop-rest : goal.decreases-loop-rest
decreases-loop-rest l = length l.rest
