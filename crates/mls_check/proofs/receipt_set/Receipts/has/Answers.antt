use Rattle.std.proofs.Common.{◌∙◌, ap}
use Rattle.mls_check.specs.ReceiptSets.{has_digest}
use Rattle.mls_check.proofs.ReceiptSets.{found-has}
use Rattle.mls_check.proofs.receipt_set.Receipts.has.Goals as goal

pub returns : goal.returns
returns c =
    c.contains.ensures ∙ (found-has c.self.inside.digests.keys c.args.digest.now ∙ ap (λ digests. has_digest digests c.args.digest.now) c.self.view_is)
