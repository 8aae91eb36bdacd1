-- Receipts as bytes, one after the other (own format). Used by contracts.
use Rattle.std.specs.Prelude.{ℕ, suc, zero, ◌/◌, List, length, take, drop}
use Rattle.mls_check.specs.ReceiptSets.{with_receipt}
use Rattle.mls_check.specs.Signatures.{VerifyFn}

-- `receipt_size` is the number of bytes of a receipt: it is a SHA-256 digest.
abbrev pub receipt_size : ℕ
receipt_size = 32

-- `with_receipts count G bytes` accepts what `G` accepts, and the signatures of the first `count` receipts in the bytes.
abbrev pub with_receipts : ℕ → VerifyFn → List ℕ → VerifyFn
with_receipts zero G bytes = G
with_receipts (suc count) G bytes =
    with_receipts count (with_receipt G (take receipt_size bytes)) (drop receipt_size bytes)

-- `having_learnt G bytes` accepts what `G` accepts, and the signatures of the receipts in the bytes.
abbrev pub having_learnt : VerifyFn → List ℕ → VerifyFn
having_learnt G bytes = with_receipts (length bytes / receipt_size) G bytes
