use Rattle.std.proofs.Common.{ℕ, suc, List, arith, take, drop, ◌∙◌, sym, ap}
use Rattle.mls_follow.specs.FollowerModel.{checker_of}
use Rattle.mls_check.specs.ReceiptSets.{with_receipt}
use Rattle.mls_check.specs.Signatures.{VerifyFn}
use Rattle.mls_start.specs.ReceiptBytes.{with_receipts, having_learnt}
use Rattle.mls_start.proofs.Learnt.{learnt_first}
use Rattle.mls_start.proofs.Learnt.{after_next, learnt_next}
use Rattle.mls_start.proofs.learning.learn_in_follower.Goals as goal

pub receipts-preserved : goal.receipts-preserved
receipts-preserved g c =
    let G = g.C.SignatureCheck.meaning (checker_of c.receipts.follower) in
    let first = g.C.SignatureCheck.meaning (checker_of c.args.follower.now) in
    let bytes = c.args.receipts.now in
    let cases = c.in-Some.ensures.cases in
    let learnt = c.in_ok-learn.ensures.learnt ∙ ap (with_receipt G) cases.0 in
    let count = c.receipts.invariant.2 in
    let meaning =
    learnt ∙ ap (λ (K : VerifyFn). with_receipt K (take 32 c.receipts.rest.now)) c.receipts.invariant.3
    ∙ ap (λ (rest : List ℕ). with_receipt (with_receipts count first bytes) (take 32 rest)) c.receipts.invariant.4
    ∙ sym (learnt_next count first bytes) in (
      (λ i. having_learnt (learnt i) (cases.1 i)) ∙ sym (learnt_first G c.receipts.rest.now (omega (arith, cases.2))) ∙ c.receipts.invariant.0,
      c.in_ok-learn.ensures.state ∙ c.receipts.invariant.1,
      suc count,
      meaning,
      cases.1 ∙ ap (drop 32) c.receipts.invariant.4 ∙ after_next count bytes,
    )
