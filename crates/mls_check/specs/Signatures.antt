-- Signatures (RFC 9420, 5.1.2), as a checker verifies them. G is its verification function. Used by contracts.
use Rattle.std.specs.Prelude.{◌≡◌, ℕ, List, Bool, true, false, Option, Some, None}
use Rattle.mls_wire.specs.Encoding.{◌⊕◌, vector}

-- A verification function: whether a signature is good, from a cipher suite, a public key, a signed content and the
-- signature.
abbrev pub VerifyFn : Type 0
VerifyFn = ℕ → List ℕ → List ℕ → List ℕ → Bool

-- `AcceptsAll G`: every signature is good.
abbrev pub AcceptsAll : VerifyFn → Type 0
AcceptsAll G = (suite : ℕ) (key content signature : List ℕ) → G suite key content signature ≡ true

-- `Extends G K`: what `G` accepts, `K` accepts.
abbrev pub Extends : VerifyFn → VerifyFn → Type 0
Extends G K =
    (suite : ℕ) (key content signature : List ℕ) → G suite key content signature ≡ true
    → K suite key content signature ≡ true

-- `sign_content label content` is the encoding of SignContent: the label, which begins with `MLS 1.0 `, and the content
-- (RFC 9420, 5.1.2).
unfoldable pub sign_content : List ℕ → List ℕ → Option (List ℕ)
sign_content label content = vector label ⊕ vector content

-- `is_good G suite key signature content`: the signature over a SignContent is good. If there is no encoding, it is
-- not.
abbrev pub is_good : VerifyFn → ℕ → List ℕ → List ℕ → Option (List ℕ) → Bool
is_good G suite key signature None = false
is_good G suite key signature (Some content) = G suite key content signature

-- `is_signed G suite key label tbs signature` is VerifyWithLabel (RFC 9420, 5.1.2): the signature over these bytes
-- under this label is good.
abbrev pub is_signed : VerifyFn → ℕ → List ℕ → List ℕ → List ℕ → List ℕ → Bool
is_signed G suite key label tbs signature = is_good G suite key signature (sign_content label tbs)

-- `is_signed_text G suite key label tbs signature`: as `is_signed`, of bytes that may have no encoding. Then the
-- signature is not good.
abbrev pub is_signed_text : VerifyFn → ℕ → List ℕ → List ℕ → Option (List ℕ) → List ℕ → Bool
is_signed_text G suite key label None signature = false
is_signed_text G suite key label (Some tbs) signature = is_signed G suite key label tbs signature
