-- When two verification functions agree on signatures to verify.
-- Used by contracts. `G` and `K`: verification functions of checkers.
use Rattle.std.specs.Prelude.{◌≡◌, ◌↔◌, List, All}
use Rattle.mls_check.specs.Signatures.{VerifyFn}
use Rattle.mls_signatures.specs.SignaturesToVerify.{deduplicated}
use Rattle.mls_signatures.specs.declared.signature_to_verify.SignatureToVerify.{SignatureToVerify}

-- `Agrees G K q`: `G` and `K` verify the signature `q` with the same result.
abbrev pub Agrees : VerifyFn → VerifyFn → SignatureToVerify → Type 0
Agrees G K q = G q.suite q.key q.content q.signature ≡ K q.suite q.key q.content q.signature

-- `AgreeOn G K qs`: `G` and `K` verify each signature of `qs` with the same result.
abbrev pub AgreeOn : VerifyFn → VerifyFn → List SignatureToVerify → Type 0
AgreeOn G K qs = All (Agrees G K) qs

-- ---- theorems

-- Two verification functions agree on a list if and only if they agree on the list without its duplicates.
abbrev pub DuplicatesAreIrrelevant : Type 0
DuplicatesAreIrrelevant =
    (G K : VerifyFn) (qs : List SignatureToVerify) → AgreeOn G K (deduplicated qs) ↔ AgreeOn G K qs
