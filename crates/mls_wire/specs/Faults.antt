-- The faults that contracts name. Used by contracts.
use Rattle.std.specs.Prelude.{ℕ}
use Rattle.mls_wire.specs.declared.fault.WireFault.{WireFault}
use Rattle.mls_wire.specs.declared.fault.WireFaultKind.TheVariants as kinds

-- `too_long_at n` is the fault of a body, a list or an input over its limit. `n` is the offset, or the number of bytes
-- written so far.
abbrev pub too_long_at : ℕ → WireFault
too_long_at n = record { kind = kinds.TooLong; at = n }

-- `trailing_at n` is the fault of bytes after the value, the first of them at offset n.
abbrev pub trailing_at : ℕ → WireFault
trailing_at n = record { kind = kinds.Trailing; at = n }
