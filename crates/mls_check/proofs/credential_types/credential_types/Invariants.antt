use Rattle.mls_check.proofs.Used.{TypeSeen}
use Rattle.mls_check.proofs.credential_types.credential_types.Given as goal

abbrev pub invariant-loop-index : goal.invariant-loop-index
invariant-loop-index l = record { basic : TypeSeen l.tree.tree 1 l.index l.types.basic; x509 : TypeSeen l.tree.tree 2 l.index l.types.x509 }
