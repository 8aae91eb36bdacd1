-- The numbers by which reports name a refused start (docs/FORMATS.md). Used by contracts.
use Rattle.std.specs.Prelude.{ℕ}
use Rattle.mls_follow.specs.declared.start_fault.StartFault.{StartFault}
use Rattle.mls_follow.specs.declared.start_fault.StartFault.TheVariants as starts

-- `start_number_of fault` is the number of a refused start.
abbrev pub start_number_of : StartFault → ℕ
start_number_of starts.OutOfMemory = 0
start_number_of starts.UnsupportedVersion = 1
start_number_of starts.UnsupportedSuite = 2
start_number_of starts.NoTree = 3
start_number_of starts.RequirementsUnreadable = 4
start_number_of (starts.Tree fault) = 5
start_number_of (starts.Member fault) = 6
start_number_of starts.SignerNotMember = 7
start_number_of starts.InfoSignature = 8
start_number_of (starts.Strict fault) = 9
