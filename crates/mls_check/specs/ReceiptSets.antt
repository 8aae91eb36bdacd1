-- Sets of receipts, as lists of digests. Order and repeats do not matter. Used by contracts.
use Rattle.std.specs.Prelude.{◌≡◌, ℕ, List, ◌∷◌, Bool, true, false, ◌||◌, Option, Some, None}
use Rattle.std.specs.List.{list_any}
use Rattle.std.specs.Str.{bytes_eq}
use Rattle.sha2.specs.Sha256.{sha256}
use Rattle.mls_check.specs.Receipts.{receipt_input, listed}
use Rattle.mls_check.specs.Signatures.{VerifyFn, Extends}

-- `has_digest digests digest`: the digest is in the list.
abbrev pub has_digest : List (List ℕ) → List ℕ → Bool
has_digest digests digest = list_any (λ d. bytes_eq d digest) digests

-- `HaveSameDigests old new`: a digest is in both lists or in neither.
abbrev pub HaveSameDigests : List (List ℕ) → List (List ℕ) → Type 0
HaveSameDigests old new = (digest : List ℕ) → has_digest new digest ≡ has_digest old digest

-- `is_receipt digest input`: the digest is the receipt of this input. An input without an encoding has no receipt.
abbrev pub is_receipt : List ℕ → Option (List ℕ) → Bool
is_receipt digest None = false
is_receipt digest (Some input) = bytes_eq digest (sha256 input)

-- `with_receipt G digest` accepts the signatures whose receipt is the digest, and those that `G` accepts.
abbrev pub with_receipt : VerifyFn → List ℕ → VerifyFn
with_receipt G digest suite key content signature =
    is_receipt digest (receipt_input suite key content signature) || G suite key content signature

-- ---- theorems

-- Lists with the same digests accept the same signatures.
abbrev pub SameDigestsMeanSame : Type 0
SameDigestsMeanSame = (old new : List (List ℕ)) → HaveSameDigests old new → listed new ≡ listed old

-- A list with more digests accepts whatever the other one accepts.
abbrev pub MoreReceiptsExtend : Type 0
MoreReceiptsExtend =
    (old new : List (List ℕ)) → ((digest : List ℕ) → has_digest old digest ≡ true → has_digest new digest ≡ true)
    → Extends (listed old) (listed new)

-- One more receipt extends any checker.
abbrev pub WithReceiptExtends : Type 0
WithReceiptExtends = (G : VerifyFn) (digest : List ℕ) → Extends G (with_receipt G digest)

-- A list after one receipt was added accepts whatever it accepted before.
abbrev pub LearningExtends : Type 0
LearningExtends =
    (old new : List (List ℕ)) (digest : List ℕ) → HaveSameDigests (digest ∷ old) new → Extends (listed old) (listed new)
