-- What the next bytes spell.
use Rattle.std.proofs.Common.{◌≡◌, ℕ, ◌<◌, ◌≤◌, List, length, take, Some, None, subst, arith}
use Rattle.std.specs.Int.{Width, byte_len, from_be_bytes}
use Rattle.mls_wire.specs.Input.{Input, skip}
use Rattle.mls_wire.specs.Parsing.{number_at}
use Rattle.mls_wire.specs.IntegersExact.{IsBytes, number_read, number_short}

-- too few bytes for a number of this width
pub front_short : (i : Input) (count : ℕ) → length i.left < count → (w : Width) → byte_len w ≡ count → number_at w i ≡ None
front_short i count lt w e = number_short w i (omega (arith, e))

-- the number that the first bytes spell
pub front_read : (i j : Input) (front : List ℕ) (count : ℕ) → IsBytes front → count ≤ length i.left → front ≡ take count i.left → j ≡ skip count i → (w : Width) → byte_len w ≡ count → number_at w i ≡ Some (from_be_bytes w front, j)
front_read i j front count fits le p q w e =
    let same : front ≡ take (byte_len w) i.left = rw e p in
    rw (same, q, ← e) (number_read w i (subst IsBytes same fits) (omega (arith, e)))
