use Rattle.std.proofs.Common.{subst}
use Rattle.mls_check.specs.Receipts.{IsReceipts}
use Rattle.mls_check.proofs.ReceiptSets.{same_mean}
use Rattle.mls_cli.proofs.load_checker.read_listed.Goals as goal

-- a set with the digests of the file accepts what the file lists
pub returns-in-Ok-read-clause-checker : goal.returns-in-Ok-read-clause-checker
returns-in-Ok-read-clause-checker g c =
    let kept = c.in-Ok-read.ensures.receipts in
    record {
      bytes = c.in-Ok.bytes.items;
      digests = kept.0;
      read = c.in-Ok.ensures.read;
      are_receipts = subst (λ bytes. IsReceipts bytes kept.0) c.as_slice.ensures.value kept.1;
      means = same_mean kept.0 c.in-Ok-read.receipts kept.2;
    }
