-- Reading numbers of two bytes each.
use Rattle.std.proofs.Common.{◌≡◌, ℕ, ◌+◌, length, Some, ap, arith, length-append}
use Rattle.std.specs.Int.{w16, to_be_bytes}
use Rattle.mls_wire.specs.Input.{Input}
use Rattle.mls_wire.specs.Encoding.{number}
use Rattle.mls_wire.specs.Parsing.{number_at}
use Rattle.mls_wire.specs.ExactParsers.{IsExact}
use Rattle.mls_wire.specs.IntegersExact.{number_below, number_exact, number_long, wide16}
use Rattle.mls_wire.specs.ListLoops.{Shortens, shortens}

pub exact16 : IsExact (number w16) (number_at w16)
exact16 = number_exact w16 wide16

pub short16 : Shortens (number_at w16)
short16 = shortens (number w16) (number_at w16) exact16 (number_long w16 wide16)

-- a number takes two bytes
pub two_bytes : (i : Input) (x : ℕ) (j : Input) → number_at w16 i ≡ Some (x, j) → length i.left ≡ length j.left + 2
two_bytes i x j e =
    let t = (exact16.takes i x j e).1 in
    let b = number_below w16 x t.0 t.1 in
    let two : length (to_be_bytes w16 x) ≡ 2 = wide16.len x in
    omega (arith, ap length t.2, length-append t.0 j.left, ap length b.1, two)
