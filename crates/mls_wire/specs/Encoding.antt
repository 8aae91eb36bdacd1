-- The presentation language of TLS and MLS (RFC 9420, 2.1): the encoding of values as bytes. An encoding is a function
-- from a value to `Some bytes`, or to `None` for a value that is over a limit. Used by contracts.
use Rattle.std.specs.Prelude.{◌≡◌, ℕ, ◌+◌, ◌^◌, List, [], ◌∷◌, ◌++◌, length, Bool, true, false, Option, Some, None, nat_lt, if◌then◌else◌}
use Rattle.std.specs.Int.{Width, to_be_bytes, w16, w32}
use mir.Val.{bits}

-- `a ⊕ b` is one encoding followed by another. It is `None` if one of the two is.
infixr 12 ◌⊕◌
unfoldable pub ◌⊕◌ : Option (List ℕ) → Option (List ℕ) → Option (List ℕ)
None ⊕ b = None
(Some a) ⊕ None = None
(Some a) ⊕ (Some b) = Some (a ++ b)

-- `number w n` is the encoding of an unsigned integer within its width, the highest byte first (RFC 8446, 3.3).
unfoldable pub number : Width → ℕ → Option (List ℕ)
number w n = if nat_lt n (2 ^ bits w) then Some (to_be_bytes w n) else None

-- `length_form n` is the encoding of a length, in the shortest of three forms, which the two highest bits distinguish
-- (RFC 9420, 2.1.2).
unfoldable pub length_form : ℕ → Option (List ℕ)
length_form n =
    if nat_lt n 64 then Some (n ∷ [])
    else if nat_lt n 16384 then Some (to_be_bytes w16 (n + 16384))
    else if nat_lt n 1073741824 then Some (to_be_bytes w32 (n + 2147483648))
    else None

-- `vector body` is the encoding of a variable-size vector: the length of its body, and the body (RFC 9420, 2.1.2).
unfoldable pub vector : List ℕ → Option (List ℕ)
vector body = length_form (length body) ⊕ Some body

-- `sized body` is the vector of a body that is itself an encoding.
unfoldable pub sized : Option (List ℕ) → Option (List ℕ)
sized None = None
sized (Some body) = vector body

-- `items item xs` is the encoding of the items one after the other, each by `item`.
unfoldable pub items : {A : Type 0} → (A → Option (List ℕ)) → List A → Option (List ℕ)
items item [] = Some []
items item (x ∷ xs) = item x ⊕ items item xs

-- `list item xs` is the encoding of a list: the length of its items in bytes, and the items (RFC 9420, 2.1.2).
unfoldable pub list : {A : Type 0} → (A → Option (List ℕ)) → List A → Option (List ℕ)
list item xs = sized (items item xs)

-- `flag b` is the byte before an optional value: 1 if the value follows, 0 if there is none (RFC 9420, 2.1.1).
unfoldable pub flag : Bool → Option (List ℕ)
flag false = Some (0 ∷ [])
flag true = Some (1 ∷ [])

-- `optional item x` is the encoding of an optional value: the byte 0, or the byte 1 and the value (RFC 9420, 2.1.1).
unfoldable pub optional : {A : Type 0} → (A → Option (List ℕ)) → Option A → Option (List ℕ)
optional item None = Some (0 ∷ [])
optional item (Some x) = Some (1 ∷ []) ⊕ item x

-- ---- properties of the encodings of a type

-- `IsInjective encoding`: bytes are the encoding of at most one value.
abbrev pub IsInjective : {A : Type 0} → (A → Option (List ℕ)) → Type 0
IsInjective {A} encoding = (x y : A) (bytes : List ℕ) → encoding x ≡ Some bytes → encoding y ≡ Some bytes → x ≡ y

-- `IsPrefixFree encoding`: no encoding is a proper prefix of another.
abbrev pub IsPrefixFree : {A : Type 0} → (A → Option (List ℕ)) → Type 0
IsPrefixFree {A} encoding = (x y : A) (bytes more : List ℕ) → encoding x ≡ Some bytes → encoding y ≡ Some (bytes ++ more) → more ≡ []

-- `IsUniquelyDecodable encoding`: both hold. So bytes that begin with an encoding determine the value and where it
-- ends.
pub record IsUniquelyDecodable {A : Type 0} (encoding : A → Option (List ℕ)) : Type 0 where
  pub once : IsInjective encoding
  pub prefix_free : IsPrefixFree encoding
