-- Numbers up to multiples of a modulus. Internal: no public contract uses this.
use Rattle.std.specs.Prelude.{◌≡◌, ℕ, ◌+◌, ◌*◌, ◌<◌}

-- `ReducesTo m a b`: a is b plus a multiple of m.
pub record ReducesTo (m a b : ℕ) : Type 0 where
  pub quotient : ℕ
  pub is : a ≡ b + quotient * m

-- `IsQuotient m w a q`: q times w is a plus fewer than w times m.
pub record IsQuotient (m w a q : ℕ) : Type 0 where
  pub times : ℕ
  pub few : times < w
  pub is : q * w ≡ a + times * m

-- `IsReducedQuotient m w a r`: r plus a multiple of m is a quotient, as of `IsQuotient m w a`.
pub record IsReducedQuotient (m w a r : ℕ) : Type 0 where
  pub quotient : ℕ
  pub divided : IsQuotient m w a quotient
  pub reduces : ReducesTo m quotient r
