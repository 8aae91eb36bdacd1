-- Limits of inputs and vectors. Used by contracts.
use Rattle.std.specs.Prelude.{ℕ}

-- The most bytes of an input, 2 ^ 28: a limit of this library.
abbrev pub input_limit : ℕ
input_limit = 268435456

-- The most bytes of the body of a vector, 2 ^ 30 - 1 (RFC 9420, 2.1.2).
abbrev pub vector_limit : ℕ
vector_limit = 1073741823

-- The most bytes of the body of a vector that is stored in place.
abbrev pub short_limit : ℕ
short_limit = 38
