-- What is taken from a source that is read to its end. Used by contracts.
use Rattle.std.specs.Prelude.{ℕ, ◌+◌, ◌≤◌, List, length, Option}
use Rattle.std.specs.Io.KnownBytes.{Consumes, IsAtEnd}
use Rattle.mls_wire.specs.Limits.{input_limit}

-- `ReadsAll old new bytes`: the bytes were taken. They are all that there were, or one more than the limit of an input.
pub record ReadsAll (old new : Option (List ℕ)) (bytes : List ℕ) : Type 0 where
  pub taken : Consumes old new bytes
  pub bounded : length bytes ≤ input_limit + 1
  pub whole : length bytes ≤ input_limit → IsAtEnd new

-- `ReadsSome old new`: some bytes were taken, and at most one more than the limit of an input.
pub record ReadsSome (old new : Option (List ℕ)) : Type 0 where
  pub bytes : List ℕ
  pub taken : Consumes old new bytes
  pub bounded : length bytes ≤ input_limit + 1
