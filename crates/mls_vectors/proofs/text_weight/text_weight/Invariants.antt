use Rattle.std.proofs.Common.{◌≡◌, ◌≤◌, ◌+◌, ◌*◌, drop}
use Rattle.mls_vectors.specs.TextWeight as spec
use Rattle.mls_vectors.proofs.text_weight.text_weight.Given as goal

-- the weight so far, with the bytes still to come
abbrev pub invariant-loop-byte : goal.invariant-loop-byte
invariant-loop-byte l = record {
  all : l.weight + spec.text_weight (drop l.byte-index l.text) ≡ spec.text_weight l.text;
  few : l.weight ≤ 40 * l.byte-index;
}
