-- The model of a reader: what is left of an input, and its offset. Used by contracts.
use Rattle.std.specs.Prelude.{ℕ, ◌+◌, List, drop}

-- `left` are the bytes that are left. They begin at `offset`, counted from the start of the outermost input.
pub record Input : Type 0 where
  pub offset : ℕ
  pub left : List ℕ

-- `at p s` are the bytes `s` at offset `p`.
abbrev pub at : ℕ → List ℕ → Input
at p s = record { offset = p; left = s }

-- `skip n i` is the input after `n` more bytes.
abbrev pub skip : ℕ → Input → Input
skip n i = at (i.offset + n) (drop n i.left)
