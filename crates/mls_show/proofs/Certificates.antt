-- The certificates of a chain, in the bytes that encode them.
use Rattle.std.proofs.Common.{◌≡◌, ◌∙◌, ℕ, ◌+◌, ◌<◌, List, [], length, Option, Some, None, sym, ap}
use Rattle.std.specs.Prelude.{option_map}
use Rattle.mls_wire.specs.Input.{Input}
use Rattle.mls_wire.specs.Encoding.{vector}
use Rattle.mls_wire.specs.Parsing.{vector_at, items_at}
use Rattle.mls_wire.specs.VectorsExact.{vector_exact, vector_long}
use Rattle.mls_wire.specs.OptionBind.{some_is}
use Rattle.mls_wire.specs.StoredItems.{AreCounted, fewer_left, one_more_counted, no_more, all_counted}

abbrev chain_in : Input → Option (List (List ℕ))
chain_in i = items_at vector_at (length i.left) i

-- one more is counted
pub one_more : (whole i j : Input) (count : ℕ) (x : List ℕ) → (i.left ≡ [] → ⊥) → vector_at i ≡ Some (x, j)
    → AreCounted vector_at whole i count → AreCounted vector_at whole j (count + 1)
one_more whole i j count x some is h = one_more_counted vector vector_at vector_exact vector_long whole i j count x some is h

-- fewer bytes are left after it
pub one_fewer : (i j : Input) (x : List ℕ) → vector_at i ≡ Some (x, j) → length j.left < length i.left
one_fewer i j x is = fewer_left vector vector_at vector_exact vector_long i j x is

-- in bytes that encode a chain there is a certificate up to the end
pub always_one : (whole i : Input) (count : ℕ) (chain : List (List ℕ)) → chain_in whole ≡ Some chain → (i.left ≡ [] → ⊥)
    → vector_at i ≡ None → AreCounted vector_at whole i count → ⊥
always_one whole i count chain e some none h =
    let stop = no_more vector vector_at vector_exact vector_long whole i count some none h in
    let bad = sym e ∙ stop in absurd cc

-- at the end all are counted
pub all_are_counted : (whole i : Input) (count : ℕ) (chain : List (List ℕ)) → chain_in whole ≡ Some chain → i.left ≡ []
    → AreCounted vector_at whole i count → count ≡ length chain
all_are_counted whole i count chain e none h =
    let all = all_counted vector vector_at vector_exact vector_long whole i count none h in
    some_is count (length chain) (sym all ∙ ap (option_map (length {A = List ℕ})) e)
