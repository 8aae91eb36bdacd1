-- Subtraction that may fail. Internal: no public contract uses this.
use Rattle.std.specs.Prelude.{ℕ, ◌-◌, nat_lt, if◌then◌else◌, Option, Some, None}

-- `taken_off left n` is `left - n`, or `None` if n is greater.
abbrev pub taken_off : ℕ → ℕ → Option ℕ
taken_off left n = if nat_lt left n then None else Some (left - n)
