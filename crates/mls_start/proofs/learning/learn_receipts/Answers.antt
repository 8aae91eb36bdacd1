use Rattle.std.proofs.Common.{arith, ◌∙◌, sym, ap}
use Rattle.mls_check.specs.ReceiptSets.{with_receipt}
use Rattle.mls_start.specs.ReceiptBytes.{having_learnt}
use Rattle.mls_start.proofs.Learnt.{learnt_first}
use Rattle.mls_start.proofs.learning.learn_receipts.Goals as goal

pub receipts-preserved : goal.receipts-preserved
receipts-preserved g c =
    let G = g.C.SignatureCheck.meaning c.receipts.checker in
    let cases = c.in-Some.ensures.cases in
    let learnt = c.in_ok-learn_receipt.ensures.learnt ∙ ap (with_receipt G) cases.0 in
    (λ i. having_learnt (learnt i) (cases.1 i)) ∙ sym (learnt_first G c.receipts.rest.now (omega (arith, cases.2))) ∙ c.receipts.invariant
