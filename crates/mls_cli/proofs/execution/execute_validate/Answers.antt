use Rattle.std.proofs.Common.{inr}
use Rattle.mls_start.specs.Inputs.{inputs_of}
use Rattle.mls_cli.proofs.execution.execute_validate.Goals as goal

pub returns-clause-executed : goal.returns-clause-executed
returns-clause-executed g c =
    inr (record {
      inputs = inputs_of c.in_ok-start.start;
      is_read = c.in_ok-start.ensures.read;
      report = record {
        printed = c.validate.ensures.printed;
        part = c.validate.ensures.effect_on_error;
        memory = c.validate.ensures.memory;
        not_read_fault = c.validate.ensures.fault;
      };
    })
