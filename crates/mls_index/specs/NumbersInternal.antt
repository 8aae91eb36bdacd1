-- How optional numbers are stored as two lists. Internal: no public contract uses this.
use Rattle.std.specs.Prelude.{ℕ, Bool, if◌then◌else◌, List, [], ◌∷◌, Option, Some, None}

-- `optional_numbers are_some numbers` is the numbers that are marked as present, each at its index, and `None` at each
-- other index.
abbrev pub optional_numbers : List Bool → List ℕ → List (Option ℕ)
optional_numbers [] numbers = []
optional_numbers (is_some ∷ rest) [] = []
optional_numbers (is_some ∷ rest) (number ∷ numbers) = (if is_some then Some number else None) ∷ optional_numbers rest numbers
