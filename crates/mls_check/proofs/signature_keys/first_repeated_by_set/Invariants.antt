use Rattle.mls_check.proofs.Keys.{KeysFrom}
use Rattle.mls_check.proofs.signature_keys.first_repeated_by_set.Given as goal

abbrev pub invariant-loop-index : goal.invariant-loop-index
invariant-loop-index l = KeysFrom l.tree.tree l.index l.later l.repeated
