-- How much the values of a JSON text (RFC 8259) weigh. A value takes memory however short its text is, so a text of many
-- short values takes many times its length. Used by contracts.
use Rattle.std.specs.Prelude.{ℕ, ◌+◌, ◌==◌, ◌<◌, List, [], ◌∷◌, if◌then◌else◌, length}

-- `byte_weight b` is the weight of a byte: 40 of `{`, 7 of `[`, 4 of `,`.
abbrev pub byte_weight : ℕ → ℕ
byte_weight b = if b == 123 then 40 else if b == 91 then 7 else if b == 44 then 4 else 0

-- `text_weight bytes` is the weight of all bytes.
abbrev pub text_weight : List ℕ → ℕ
text_weight [] = 0
text_weight (b ∷ bytes) = byte_weight b + text_weight bytes

-- `IsTooHeavy bytes`: the text weighs more than it has bytes, and than 262,144 beyond them.
abbrev pub IsTooHeavy : List ℕ → Type 0
IsTooHeavy bytes = length bytes + 262144 < text_weight bytes
