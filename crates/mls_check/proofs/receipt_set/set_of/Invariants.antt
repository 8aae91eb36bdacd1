use Rattle.std.proofs.Common.{take}
use Rattle.mls_check.specs.ReceiptSets.{HaveSameDigests}
use Rattle.mls_check.proofs.receipt_set.set_of.Given as goal

abbrev pub invariant-loop-digest : goal.invariant-loop-digest
invariant-loop-digest l = HaveSameDigests (take l.digest-index l.digests) l.receipts
