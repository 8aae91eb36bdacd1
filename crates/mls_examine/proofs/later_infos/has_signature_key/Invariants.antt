use Rattle.mls_check.proofs.Leaves.{HoldsBelow}
use Rattle.mls_examine.proofs.Looking.{other_key}
use Rattle.mls_examine.proofs.later_infos.has_signature_key.Given as goal

abbrev pub invariant-loop-index : goal.invariant-loop-index
invariant-loop-index l = HoldsBelow (other_key l.key) l.tree.tree l.index
