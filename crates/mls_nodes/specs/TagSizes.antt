-- How many bytes a type's number takes before what belongs to it. Internal: no public contract uses this.
use Rattle.std.proofs.Common.{◌≡◌, ◌^◌, ◌<◌, ℕ, Some, sym, arith}
use Rattle.std.specs.Int.{w8, w16}
use Rattle.mls_wire.specs.Encoding.{number}
use Rattle.mls_wire.specs.IntegersExact.{wide8, wide16}
use Rattle.mls_wire.specs.SaturatingSizes.{size}
use Rattle.mls_wire.specs.EncodedSizes.{size_joined, size_number}

-- A type of one byte.
pub tag_w8 : (n : ℕ) → n < 2 ^ 8 → size (number w8 n) ≡ Some 1
tag_w8 n lt = sym (size_number w8 wide8 n lt (omega arith))

-- A type of two bytes.
pub tag_w16 : (n : ℕ) → n < 2 ^ 16 → size (number w16 n) ≡ Some 2
tag_w16 n lt = sym (size_number w16 wide16 n lt (omega arith))

-- The rules for sizes of fields put together.
pub ruleset tag_sizes = (size_joined, tag_w8, tag_w16)
