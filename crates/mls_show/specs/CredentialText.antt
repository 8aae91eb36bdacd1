-- A credential as text (RFC 9420, 5.3). Used by contracts.
use Rattle.std.specs.Prelude.{ℕ, List, [], ◌∷◌, ◌++◌, length, Bool, not, ◌&&◌, ◌||◌, ◌==◌, nat_le, if◌then◌else◌, codes}
use Rattle.std.specs.Fmt.{decimal}
use Rattle.std.specs.List.{list_all}
use Rattle.std.specs.Str.{chars, is_utf8}
use Rattle.mls_nodes.specs.declared.credential.Credential.{Credential}
use Rattle.mls_nodes.specs.declared.credential.Credential.TheVariants.{Basic, X509}
use Rattle.mls_show.specs.ValueTexts.{hex_text}

-- `is_between low high c` is true if `c` is at least `low` and at most `high`.
abbrev pub is_between : ℕ → ℕ → ℕ → Bool
is_between low high c = nat_le low c && nat_le c high

-- `is_printable c`: the character `c` is no control character (below U+0020, U+007F to U+009F), no separator of lines or
-- paragraphs (U+2028, U+2029), and does not change the direction of a text (U+202A to U+202E, U+2066 to U+2069).
unfoldable pub is_printable : ℕ → Bool
is_printable c =
    nat_le 32 c && not (is_between 127 159 c) && not (is_between 8232 8238 c) && not (is_between 8294 8297 c)

-- `is_printable_text bytes`: the bytes are the UTF-8 of characters each of which is printable.
abbrev pub is_printable_text : List ℕ → Bool
is_printable_text bytes = is_utf8 bytes && list_all is_printable (chars bytes)

-- `escaped_byte byte` is a byte of a printable text, after a backslash if it is a quotation mark or a backslash, as in a string
-- of JSON (RFC 8259, 7).
abbrev pub escaped_byte : ℕ → List ℕ
escaped_byte byte = if byte == 34 || byte == 92 then 92 ∷ byte ∷ [] else byte ∷ []

-- `escaped bytes` is the bytes of a printable text, each as `escaped_byte` has it.
abbrev pub escaped : List ℕ → List ℕ
escaped [] = []
escaped (byte ∷ bytes) = escaped_byte byte ++ escaped bytes

-- `identity_text identity` is an identity between quotation marks if it is printable text, else in hexadecimal.
abbrev pub identity_text : List ℕ → List ℕ
identity_text identity =
    if is_printable_text identity then codes "\"" ++ (escaped identity ++ codes "\"") else hex_text identity

-- `credential_text c` is a basic credential by its identity, or an X.509 credential by the number of its certificates.
abbrev pub credential_text : Credential → List ℕ
credential_text (Basic identity) = codes "basic " ++ identity_text identity
credential_text (X509 chain) = codes "x509 " ++ decimal (length chain)
