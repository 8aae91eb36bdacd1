use Rattle.std.proofs.Common.{◌≡◌, ◌≤◌, ◌-◌, ◌+◌, ◌*◌, ℕ}
use Rattle.mls_nodes.specs.RatchetTreeEncoding.{full_from, full_size}
use Rattle.mls_nodes.proofs.ratchet_tree.decode.full_size_of.Given as goal

abbrev pub invariant-loop-size : goal.invariant-loop-size
invariant-loop-size l = record {
  steps : (n : ℕ) × (l.count ≤ l.size + n) × (full_from n l.size l.count ≡ full_size l.count);
  small : l.size ≤ 2 * l.count + 1;
  some : 1 ≤ l.size;
}

abbrev pub decreases-loop-size : goal.decreases-loop-size
decreases-loop-size l = l.count - l.size
