use Rattle.std.proofs.Common.{◌≡◌, ◌++◌, drop}
use Rattle.mls_signatures.specs.SignaturesToVerify.{replaced_leaves}
use Rattle.mls_signatures.proofs.commit_signatures.push_replaced_leaves.Given as goal

abbrev pub invariant-loop-item : goal.invariant-loop-item
invariant-loop-item l =
    l.leaves.items ++ replaced_leaves (drop l.item-index l.items) ≡ l.initial.leaves.items ++ replaced_leaves l.items
