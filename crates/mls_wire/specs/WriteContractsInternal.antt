-- The model of a draft, made from its bytes. Internal: no public contract uses this.
use Rattle.std.specs.Prelude.{ℕ, List, take, drop}
use Rattle.mls_wire.specs.WriteContracts.{Added}

-- `added count bytes` is the model of a draft of which the first `count` bytes were there before.
abbrev pub added : ℕ → List ℕ → Added
added count bytes = record { kept = take count bytes; more = drop count bytes }
