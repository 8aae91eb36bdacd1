use Rattle.std.proofs.Common.{◌∙◌, sym, ap, Some, [], flat_map, append-nil}
use Rattle.mls_check.proofs.Inputs.{receipt_input-no_key, receipt_input-no_content, receipt_input-no_signature, receipt_input-some}
use Rattle.mls_check.proofs.receipts.receipt.Goals as goal

pub returns-in_err-update_vector : goal.returns-in_err-update_vector
returns-in_err-update_vector c =
    let content = flat_map (λ p. p.now) c.args.content.now in
    let none = rw (append-nil c.args.key.now) at c.in_err-update_vector.ensures.none in
    c.from_residual.ensures ∙ sym (receipt_input-no_key c.args.suite c.args.key.now content c.args.signature.now none)

pub returns-in_err-update_vector-2 : goal.returns-in_err-update_vector-2
returns-in_err-update_vector-2 c =
    let content = flat_map (λ p. p.now) c.args.content.now in
    c.from_residual-in_err-update_vector-2.ensures ∙ sym (receipt_input-no_content c.args.suite c.args.key.now content c.args.signature.now c.in_err-update_vector-2.ensures.none)

pub returns-in_err-update_vector-3 : goal.returns-in_err-update_vector-3
returns-in_err-update_vector-3 c =
    let content = flat_map (λ p. p.now) c.args.content.now in
    let none = rw (append-nil c.args.signature.now) at c.in_err-update_vector-3.ensures.none in
    c.from_residual-in_err-update_vector-3.ensures ∙ sym (receipt_input-no_signature c.args.suite c.args.key.now content c.args.signature.now none)

pub returns : goal.returns
returns c =
    let body = flat_map (λ p. p.now) c.args.content.now in
    let key = rw (append-nil c.args.key.now) at c.in_ok-update_vector.ensures.some in
    let content = c.in_ok-update_vector-2.ensures.some in
    let signature = rw (append-nil c.args.signature.now) at c.in_ok-update_vector-3.ensures.some in
    let start = c.update.ensures [] c.new-hasher.ensures in
    let digest = c.finalize.ensures _ (signature.2 _ (content.2 _ (key.2 _ start))) in
    ap (λ x. Some x) digest ∙ receipt_input-some c.args.suite c.args.key.now body c.args.signature.now c.to_be_bytes.result key.0 content.0 signature.0 c.ranges.suite.fits c.to_be_bytes.ensures key.1 content.1 signature.1
