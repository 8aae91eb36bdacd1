use Rattle.std.specs.Int.{w16}
use Rattle.mls_wire.specs.Codes.{codes_in}
use Rattle.mls_wire.specs.Encoding.{number}
use Rattle.mls_wire.specs.Parsing.{number_at}
use Rattle.mls_wire.specs.IntegersExact.{number_exact, number_long, wide16}
use Rattle.mls_wire.specs.ExactReads.{list_fits}
use Rattle.mls_wire.proofs.codes.read_codes.Goals as goal

pub returns-clause-fits : goal.returns-clause-fits
returns-clause-fits c = list_fits (number w16) (number_at w16) (number_exact w16 wide16) (number_long w16 wide16) codes_in _ _ c.list_of.result c.list_of.ensures
