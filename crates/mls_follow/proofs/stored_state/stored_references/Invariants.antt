use Rattle.std.proofs.Common.{◌≡◌, take}
use Rattle.mls_follow.proofs.stored_state.stored_references.Given as goal

abbrev pub invariant-loop-reference : goal.invariant-loop-reference
invariant-loop-reference l = l.stored.items ≡ take l.reference-index l.reference-items
