use Rattle.std.proofs.Common.{arith}
use Rattle.mls_nodes.proofs.Lengths.{prefix_1, prefix_2, prefix_4}
use Rattle.mls_nodes.proofs.encoded_len.length_of_prefix.Goals as goal

pub returns-then-body-lt64-clause-length : goal.returns-then-body-lt64-clause-length
returns-then-body-lt64-clause-length c = prefix_1 c.args.body c.if-body-lt64.true

pub returns-then-body-lt16384-clause-length : goal.returns-then-body-lt16384-clause-length
returns-then-body-lt16384-clause-length c = prefix_2 c.args.body c.if-body-lt64.false c.if-body-lt16384.true

pub returns-else-body-lt16384-clause-length : goal.returns-else-body-lt16384-clause-length
returns-else-body-lt16384-clause-length c = prefix_4 c.args.body c.if-body-lt16384.false (omega arith)
