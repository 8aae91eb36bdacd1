use Rattle.std.proofs.Common.{◌≡◌}
use Rattle.mls_apply.proofs.blank_hashes.BlankHashes.put.Given as goal

abbrev pub invariant-loop-hash : goal.invariant-loop-hash
invariant-loop-hash l = l.tree.tree ≡ l.initial.tree.tree
