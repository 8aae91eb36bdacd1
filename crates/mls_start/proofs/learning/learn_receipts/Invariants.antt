use Rattle.std.proofs.Common.{◌≡◌, length}
use Rattle.mls_start.specs.ReceiptBytes.{having_learnt}
use Rattle.mls_start.proofs.learning.learn_receipts.Given as goal

-- what is still to be learnt makes all that was to be learnt
abbrev pub invariant-receipts : goal.invariant-receipts
invariant-receipts g l =
    let G = g.C.SignatureCheck.meaning in
    having_learnt (G l.checker) l.rest ≡ having_learnt (G l.fn.checker) l.receipts

abbrev pub decreases-receipts : goal.decreases-receipts
decreases-receipts g l = length l.rest
