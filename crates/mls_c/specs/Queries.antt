-- The records of the signatures that have to be verified (own format). `G` accepts the signatures that are known to be
-- good. Used by contracts.
use Rattle.std.specs.Prelude.{ℕ, ◌++◌, List, [], ◌∷◌, Option, Some, None, if◌then◌else◌}
use Rattle.sha2.specs.Sha256.{sha256}
use Rattle.mls_wire.specs.Encoding.{vector}
use Rattle.mls_check.specs.Receipts.{receipt_input}
use Rattle.mls_check.specs.Signatures.{VerifyFn}
use Rattle.mls_signatures.specs.declared.signature_to_verify.SignatureToVerify.{SignatureToVerify}

-- `bytes_or_none encoding` is the bytes of an encoding; no bytes if there is none.
abbrev pub bytes_or_none : Option (List ℕ) → List ℕ
bytes_or_none None = []
bytes_or_none (Some bytes) = bytes

-- `record_of input` is the record with the receipt of an input, and the input: a vector. An input without an encoding
-- has no receipt, and no record.
abbrev pub record_of : Option (List ℕ) → List ℕ
record_of None = []
record_of (Some input) = bytes_or_none (vector (sha256 input ++ input))

-- `signature_record w` is the record of a signature: its receipt, the suite, and the key, the SignContent (RFC 9420,
-- 5.1.2) and the signature, each as a vector.
abbrev pub signature_record : SignatureToVerify → List ℕ
signature_record w = record_of (receipt_input w.suite w.key w.content w.signature)

-- `record_unless G w` is this record, and no bytes if `G` accepts the signature.
abbrev pub record_unless : VerifyFn → SignatureToVerify → List ℕ
record_unless G w = if G w.suite w.key w.content w.signature then [] else signature_record w

-- `query_records G signatures` is the records of the signatures of a list that `G` does not accept, in its order.
abbrev pub query_records : VerifyFn → List SignatureToVerify → List ℕ
query_records G [] = []
query_records G (w ∷ signatures) = record_unless G w ++ query_records G signatures
