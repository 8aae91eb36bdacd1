use Rattle.std.proofs.Common.{inr, rules}
use Rattle.mls_program.proofs.show_execution.execute_show.Goals as goal

pub returns-clause-executed : goal.returns-clause-executed
returns-clause-executed g c =
    let device = g.met.F.Files.device_is c.args.files.now in
    inr (record {
      opened = c.in-Some.input;
      ended = c.run_show_in.new.input;
      given = search rules;
      shown = rw device c.run_show_in.ensures.shown;
      part = rw device c.run_show_in.ensures.effect_on_error;
      failed = rw device c.run_show_in.ensures.read;
    })
