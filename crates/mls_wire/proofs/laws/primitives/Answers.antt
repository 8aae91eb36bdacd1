use Rattle.std.specs.Int.{w8, w16, w32, w64}
use Rattle.mls_wire.specs.Encoding.{number, length_form, vector, flag}
use Rattle.mls_wire.specs.Parsing.{number_at, length_at, vector_at}
use Rattle.mls_wire.specs.ParsingInternal.{flag_at}
use Rattle.mls_wire.specs.IntegersExact.{number_exact, wide8, wide16, wide32, wide64}
use Rattle.mls_wire.specs.LengthsExact.{length_exact}
use Rattle.mls_wire.specs.VectorsExact.{vector_exact}
use Rattle.mls_wire.specs.OptionalsExact.{flag_exact}
use Rattle.mls_wire.specs.ExactTheorems.{unambiguous}
use Rattle.mls_wire.proofs.laws.primitives.Goals as goal

pub returns : goal.returns
returns c = record {
  uint8 = unambiguous (number w8) (number_at w8) (number_exact w8 wide8);
  uint16 = unambiguous (number w16) (number_at w16) (number_exact w16 wide16);
  uint32 = unambiguous (number w32) (number_at w32) (number_exact w32 wide32);
  uint64 = unambiguous (number w64) (number_at w64) (number_exact w64 wide64);
  length = unambiguous length_form length_at length_exact;
  vector = unambiguous vector vector_at vector_exact;
  optional = unambiguous flag flag_at flag_exact;
}
