-- Receipts: a file that lists good signatures by their digests, and the checker that it makes. Used by contracts.
use Rattle.std.specs.Prelude.{◌≡◌, ℕ, ◌+◌, ◌==◌, ◌≤◌, ◌<◌, if◌then◌else◌, List, [], ◌∷◌, length, map, Bool, false, Option, Some, None, is_some, Result, Ok, Err}
use Rattle.std.specs.Int.{w16}
use Rattle.std.specs.List.{list_any}
use Rattle.std.specs.Str.{bytes_eq}
use Rattle.mls_wire.specs.Limits.{input_limit}
use Rattle.sha2.specs.Sha256.{sha256}
use Rattle.hex.specs.Hex.{decode_pairs}
use Rattle.hex.specs.declared.error.FromHexError.{FromHexError}
use Rattle.mls_check.specs.declared.receipts.ReceiptsFault.{ReceiptsFault}
use Rattle.mls_check.specs.declared.receipts.ReceiptsFault.TheVariants.{BadLine, TooLong, OutOfMemory}
use Rattle.mls_wire.specs.Encoding.{◌⊕◌, number, vector}

-- `receipt_input suite key content signature` is the input of a receipt: the suite, the key, the SignContent (RFC 9420,
-- 5.1.2) and the signature.
unfoldable pub receipt_input : ℕ → List ℕ → List ℕ → List ℕ → Option (List ℕ)
receipt_input suite key content signature = number w16 suite ⊕ vector key ⊕ vector content ⊕ vector signature

-- `is_listed digests input`: the digest of the input is in the list. An input without an encoding has no receipt.
abbrev pub is_listed : List (List ℕ) → Option (List ℕ) → Bool
is_listed digests None = false
is_listed digests (Some input) = list_any (λ d. bytes_eq d (sha256 input)) digests

-- `listed digests` is the verification function of a list of receipts: a signature is good if and only if it has a
-- receipt in the list.
abbrev pub listed : List (List ℕ) → ℕ → List ℕ → List ℕ → List ℕ → Bool
listed digests suite key content signature = is_listed digests (receipt_input suite key content signature)

-- `before_lines b lines` is the lines with the byte `b` before the first one.
abbrev pub before_lines : ℕ → List (List ℕ) → List (List ℕ)
before_lines b [] = (b ∷ []) ∷ []
before_lines b (line ∷ lines) = (b ∷ line) ∷ lines

-- `receipt_lines bytes` is the lines of a file, each ended by LF, which the last one may lack.
unfoldable pub receipt_lines : List ℕ → List (List ℕ)
receipt_lines [] = []
receipt_lines (b ∷ bytes) = if b == 10 then [] ∷ receipt_lines bytes else before_lines b (receipt_lines bytes)

-- `decoded result` is the bytes that were decoded from hexadecimal text, if they were.
abbrev pub decoded : Result (List ℕ) FromHexError → Option (List ℕ)
decoded (Ok bytes) = Some bytes
decoded (Err _) = None

-- `digest_of line` is the digest on a line: 64 hexadecimal digits, of either case, are 32 bytes.
unfoldable pub digest_of : List ℕ → Option (List ℕ)
digest_of line = if length line == 64 then decoded (decode_pairs 0 line) else None

-- `IsReceipts bytes digests`: the file is within the limit of an input, and each line has one of these digests, in
-- their order.
pub record IsReceipts (bytes : List ℕ) (digests : List (List ℕ)) : Type 0 where
  pub within : length bytes ≤ input_limit
  pub lines : map digest_of (receipt_lines bytes) ≡ map (λ digest. Some digest) digests

-- `bad_line_from n lines` is the number of the first line without a digest, if the first line has number n.
abbrev pub bad_line_from : ℕ → List (List ℕ) → Option ℕ
bad_line_from n [] = None
bad_line_from n (line ∷ lines) = if is_some (digest_of line) then bad_line_from (n + 1) lines else Some n

-- `bad_line bytes` is the number of the first line of a file without a digest, counted from 1.
abbrev pub bad_line : List ℕ → Option ℕ
bad_line bytes = bad_line_from 1 (receipt_lines bytes)

-- `IsReceiptsFault fault bytes`: the file is over the limit, which is checked first, or this line is the first one
-- without a digest. `OutOfMemory` says nothing.
abbrev pub IsReceiptsFault : ReceiptsFault → List ℕ → Type 0
IsReceiptsFault TooLong bytes = input_limit < length bytes
IsReceiptsFault (BadLine n) bytes = (length bytes ≤ input_limit) × (bad_line bytes ≡ Some n)
IsReceiptsFault OutOfMemory bytes = length bytes ≤ input_limit
