-- The number of leaves of a perfect tree, by its height. Internal: no public contract uses this.
use Rattle.std.specs.Prelude.{ℕ, zero, suc, ◌+◌}

-- `leaves_at h` is the number of leaves of a perfect tree of height h: 2 ^ h.
abbrev pub leaves_at : ℕ → ℕ
leaves_at zero = 1
leaves_at (suc h) = leaves_at h + leaves_at h
