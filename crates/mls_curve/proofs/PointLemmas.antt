-- Tests of coordinates and of the bytes of a point.
use Rattle.std.specs.Prelude.{◌≡◌, ◌≢◌, ℕ, ◌+◌, ◌-◌, ◌*◌, ◌%◌, ◌<◌, ◌↔◌, Bool, true, false, List, [], ◌∷◌, length, take, drop, IsTrue, slice_index}
use Rattle.std.proofs.Common.{refl, sym, arith}
use Rattle.std.proofs.lemmas.Bool.{and_left, and_right, eq-eqb, lt-ltb, ne_eqb}
use Rattle.std.proofs.lemmas.Bool.Decides.{same_from_decides, Decides-eqb}
use Rattle.std.proofs.lemmas.List.{take_rest}
use Rattle.mls_curve.specs.declared.curve.Curve.{Curve}
use Rattle.mls_curve.specs.Curves.{begins_with, big_endian, coefficient, coordinate_length, is_on_curve, is_point, prime}

-- the equation decides if both coordinates are below the prime
pub point_by_equation : (curve : Curve) (x y : ℕ) (t : Bool) → x < prime curve → y < prime curve
    → (IsTrue t ↔ (y * y % prime curve ≡ (x * x * x + (prime curve - 3) * x + coefficient curve) % prime curve))
    → t ≡ is_point curve x y
point_by_equation curve x y t x_below y_below h =
    rw (lt-ltb x (prime curve) x_below, lt-ltb y (prime curve) y_below) (same_from_decides t _ h (Decides-eqb _ _))

first_is : (n : ℕ) (b : List ℕ) → 0 < length b → slice_index b 0 ≡ n → begins_with n b ≡ true
first_is n [] some e = absurd (omega arith)
first_is n (x ∷ xs) some e = eq-eqb x n e

first_differs : (n : ℕ) (b : List ℕ) → slice_index b 0 ≢ n → begins_with n b ≡ false
first_differs n [] e = refl
first_differs n (x ∷ xs) e = ne_eqb x n e

pub no_point_by_length : (curve : Curve) (b : List ℕ) → length b ≢ 1 + 2 * coordinate_length curve
    → false ≡ is_on_curve curve b
unfolding is_on_curve
no_point_by_length curve b h = rw (ne_eqb (length b) (1 + 2 * coordinate_length curve) h) refl

pub no_point_by_form : (curve : Curve) (b : List ℕ) → slice_index b 0 ≢ 4 → false ≡ is_on_curve curve b
unfolding is_on_curve
no_point_by_form curve b h = sym (and_left _ _ (and_right _ _ (first_differs 4 b h)))

-- of bytes of the right length and form, the coordinates decide
pub point_by_coordinates : (curve : Curve) (b : List ℕ) → length b ≡ 1 + 2 * coordinate_length curve → slice_index b 0 ≡ 4
    → is_point curve (big_endian 0 (take (1 + coordinate_length curve - 1) (drop 1 b)))
    (big_endian 0 (take (length b - (1 + coordinate_length curve)) (drop (1 + coordinate_length curve) b)))
    ≡ is_on_curve curve b
unfolding is_on_curve
point_by_coordinates curve b long four =
    let width : 1 + coordinate_length curve - 1 ≡ coordinate_length curve = omega arith in
    let test = eq-eqb (length b) (1 + 2 * coordinate_length curve) long in
    rw (width, take_rest b (1 + coordinate_length curve), test, first_is 4 b (omega arith) four) refl
