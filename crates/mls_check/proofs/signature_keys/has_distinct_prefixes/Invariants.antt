use Rattle.mls_check.proofs.Differing.{Begun}
use Rattle.mls_check.proofs.Keys.{signature_key_at}
use Rattle.mls_check.proofs.signature_keys.has_distinct_prefixes.Given as goal

abbrev pub invariant-loop-index : goal.invariant-loop-index
invariant-loop-index l = Begun (signature_key_at l.tree.tree) l.index l.prefixes.items
