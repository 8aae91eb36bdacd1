use Rattle.std.proofs.Common.{◌^◌, ◌<◌, length, arith}
use Rattle.mls_wire.specs.Input.{at}
use Rattle.mls_msgs.proofs.SecretsInInput.{references_fit}
use Rattle.mls_msgs.proofs.welcome.WelcomeFront.references.Goals as goal

pub returns-clause-limit : goal.returns-clause-limit
returns-clause-limit c =
    let short : length c.encoded.result.now < 2 ^ 64 = search in
    rw c.new.ensures (omega (arith, short, references_fit (at 0 c.encoded.result.now)))
