use Rattle.mls_check.proofs.ReceiptSets.{same_mean, more_extend, learning_extends, with_receipt_extends}
use Rattle.mls_check.proofs.laws.receipts_extend.Goals as goal

pub returns : goal.returns
returns c = record { same = same_mean; more = more_extend; learning = learning_extends; one_more = with_receipt_extends }
