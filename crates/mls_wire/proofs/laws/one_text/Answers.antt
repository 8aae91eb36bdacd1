use Rattle.mls_wire.proofs.WriteLaws.{writes_once, puts_once, makes_once}
use Rattle.mls_wire.proofs.laws.one_text.Goals as goal

pub returns-clause-written : goal.returns-clause-written
returns-clause-written c = writes_once

pub returns-clause-put : goal.returns-clause-put
returns-clause-put c = puts_once

pub returns-clause-made : goal.returns-clause-made
returns-clause-made c = makes_once
