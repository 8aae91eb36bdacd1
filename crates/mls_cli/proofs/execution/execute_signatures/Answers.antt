use Rattle.std.proofs.Common.{inl, inr, rules}
use Rattle.mls_start.specs.Inputs.{inputs_of}
use Rattle.mls_cli.proofs.execution.execute_signatures.Goals as goal

pub returns-clause-executed : goal.returns-clause-executed
returns-clause-executed g c =
    let device = g.met.F.Files.device_is c.args.files.now in
    inr (record {
      inputs = inputs_of c.in_ok-start.start;
      is_read = c.in_ok-start.ensures.read;
      report = inr (record {
        opened = c.in-Some.log;
        ended = c.signatures.new.log;
        given = c.in-Some.ensures.given;
        printed = rw device c.signatures.ensures.printed;
        part = rw device c.signatures.ensures.effect_on_error;
        failed = rw device c.signatures.ensures.read;
      });
    })

pub returns-in_default-clause-executed : goal.returns-in_default-clause-executed
returns-in_default-clause-executed g c =
    inr (record {
      inputs = inputs_of c.in_ok-start.start;
      is_read = c.in_ok-start.ensures.read;
      report = inl (search rules);
    })
