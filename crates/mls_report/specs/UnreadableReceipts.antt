-- The report of a receipts file that cannot be read: one line. Used by contracts.
use Rattle.std.specs.Prelude.{ℕ, List, [], ◌++◌, codes, Option, ◌≡◌, ◌≢◌}
use Rattle.std.specs.Fmt.{decimal}
use Rattle.std.specs.Io.KnownBytes.{Appends}
use Rattle.mls_check.specs.declared.receipts.ReceiptsFault.{ReceiptsFault}
use Rattle.mls_check.specs.declared.receipts.ReceiptsFault.TheVariants as faults
use Rattle.mls_show.specs.declared.verdict.Verdict.{Verdict}
use Rattle.mls_show.specs.declared.verdict.Verdict.TheVariants.{No}

-- `receipts_line fault` is the line of a receipts file that cannot be read. It has the number of the first line without a
-- digest, or says that the file is too long. OutOfMemory has no line.
abbrev pub receipts_line : ReceiptsFault → List ℕ
receipts_line (faults.BadLine line) = codes "receipts unreadable " ++ (decimal line ++ codes "\n")
receipts_line faults.TooLong = codes "receipts unreadable TooLong\n"
receipts_line faults.OutOfMemory = []

-- `ReportsReceipts fault written0 written1 verdict`: the line of the fault was written whole, and the verdict is No.
pub record ReportsReceipts (fault : ReceiptsFault) (written0 written1 : Option (List ℕ))
    (verdict : Verdict) : Type 0 where
  pub not_out_of_memory : fault ≢ faults.OutOfMemory
  pub wrote : Appends written0 written1 (receipts_line fault)
  pub verdict_is : verdict ≡ No
