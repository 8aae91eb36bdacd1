-- Bytes and numbers as text in a report. Used by contracts.
use Rattle.std.specs.Prelude.{ℕ, List, [], ◌∷◌, ◌++◌, ◌≢◌, codes}
use Rattle.std.specs.Fmt.{decimal}
use Rattle.std.specs.List.{All}
use Rattle.hex.specs.Hex.{encode_lower}

-- `hex_text bytes` is the bytes in lower-case hexadecimal, or a dash if there are none.
abbrev pub hex_text : List ℕ → List ℕ
hex_text [] = codes "-"
hex_text (byte ∷ bytes) = encode_lower (byte ∷ bytes)

-- `more_numbers_text numbers` is further numbers of a list, each after a comma.
abbrev pub more_numbers_text : List ℕ → List ℕ
more_numbers_text [] = []
more_numbers_text (number ∷ numbers) = codes "," ++ (decimal number ++ more_numbers_text numbers)

-- `numbers_text numbers` is the numbers in decimal, joined by commas, or a dash if there are none.
abbrev pub numbers_text : List ℕ → List ℕ
numbers_text [] = codes "-"
numbers_text (number ∷ numbers) = decimal number ++ more_numbers_text numbers

-- `IsOneLine text`: the text has no line feed.
abbrev pub IsOneLine : List ℕ → Type 0
IsOneLine text = All (λ c. c ≢ 10) text
