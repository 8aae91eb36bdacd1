-- How a call writes a value of any length into a buffer of the caller's. Used by contracts.
use Rattle.std.specs.Prelude.{ℕ, ◌≡◌, List, ◌++◌, length, drop, nat_le, if◌then◌else◌, Bool, ◌&&◌}
use Rattle.mls_c.specs.Numbers.{buffer_too_small}

-- `fits value old`: the value is no longer than the buffer `old`.
abbrev pub fits : List ℕ → List ℕ → Bool
fits value old = nat_le (length value) (length old)

-- `put value old` is the buffer `old` with the value at its front. It is `old` if the value is too long for it.
abbrev pub put : List ℕ → List ℕ → List ℕ
put value old = if fits value old then value ++ drop (length value) old else old

-- `put_number value old` is 0 if the value fits the buffer, else the number that says that it does not.
abbrev pub put_number : List ℕ → List ℕ → ℕ
put_number value old = if fits value old then 0 else buffer_too_small

-- `IsPut value old new needed number`: the value was written to the front of the buffer if it fits, and `needed` is its
-- length. If it does not fit, the buffer is unchanged.
pub record IsPut (value old new : List ℕ) (needed number : ℕ) : Type 0 where
  pub written : new ≡ put value old
  pub length_is : needed ≡ length value
  pub number_is : number ≡ put_number value old

-- `both_fit x x_old y y_old`: each of two values is no longer than its buffer.
abbrev pub both_fit : List ℕ → List ℕ → List ℕ → List ℕ → Bool
both_fit x x_old y y_old = fits x x_old && fits y y_old

-- `put_if b value old` is the buffer `old` with the value at its front if `b` is true, else `old`.
abbrev pub put_if : Bool → List ℕ → List ℕ → List ℕ
put_if b value old = if b then value ++ drop (length value) old else old

-- `number_if b` is 0 if `b` is true, else the number that says that a value does not fit.
abbrev pub number_if : Bool → ℕ
number_if b = if b then 0 else buffer_too_small

-- `ArePut x x_old x_new x_needed y y_old y_new y_needed number`: two values were written to the fronts of their buffers if both
-- fit, and the numbers needed are their lengths. If one does not fit, both buffers are unchanged.
pub record ArePut (x x_old x_new : List ℕ) (x_needed : ℕ) (y y_old y_new : List ℕ) (y_needed number : ℕ) : Type 0 where
  pub first_written : x_new ≡ put_if (both_fit x x_old y y_old) x x_old
  pub second_written : y_new ≡ put_if (both_fit x x_old y y_old) y y_old
  pub first_length : x_needed ≡ length x
  pub second_length : y_needed ≡ length y
  pub number_is : number ≡ number_if (both_fit x x_old y y_old)
