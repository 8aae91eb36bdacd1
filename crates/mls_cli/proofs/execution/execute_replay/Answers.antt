use Rattle.std.proofs.Common.{◌≡◌, true, inl, inr, rules, refl}
use Rattle.std.specs.Prelude.{option_map}
use Rattle.mls_follow.specs.FollowerModel.{state_of}
use Rattle.mls_start.specs.Inputs.{inputs_of}
use Rattle.mls_cli.proofs.Saving.{going, fault_means, outcome_means, unfailed, saved-read, saved-write, means-write}
use Rattle.mls_wire.specs.declared.fault.RunFault.TheVariants.{Read, Write}
use Rattle.mls_cli.proofs.execution.execute_replay.Goals as goal

pub returns-in-Ok-clause-executed : goal.returns-in-Ok-clause-executed
returns-in-Ok-clause-executed g c =
    let device = g.met.F.Files.device_is c.args.files.now in
    inr (record {
      inputs = inputs_of c.in_ok-start.start;
      is_read = c.in_ok-start.ensures.read;
      report = inr (record {
        opened = c.in-Some.log;
        ended = c.replay.new.log;
        given = search rules;
        replayed = inl (record {
          verdict = c.in-Ok.replayed.verdict;
          last = option_map (λ f. state_of f) c.in-Ok.replayed.follower;
          whole = rw device c.in-Ok.ensures.replayed;
          saved = c.store_after-stored.ensures.saved;
          going = going c.replay.result c.in-Ok.replayed _ c.in-Ok.is c.replay.ensures.write;
        });
        failed = rw device (saved-read {P = (g.F.File.Source.device c.replay.new.log).has_failed ≡ true} c.store_after-stored.result c.store_after-stored.ensures.fault
            (unfailed c.replay.result c.in-Ok.replayed c.in-Ok.is c.replay.ensures.read));
      });
    })

pub returns-in-Ok-clause-write : goal.returns-in-Ok-clause-write
returns-in-Ok-clause-write g c =
    saved-write _ c.store_after-stored.result _ c.store_after-stored.ensures.write
    (going c.replay.result c.in-Ok.replayed _ c.in-Ok.is c.replay.ensures.write)

pub returns-clause-executed : goal.returns-clause-executed
returns-clause-executed g c =
    let device = g.met.F.Files.device_is c.args.files.now in
    inr (record {
      inputs = inputs_of c.in_ok-start.start;
      is_read = c.in_ok-start.ensures.read;
      report = inr (record {
        opened = c.in-Some.log;
        ended = c.replay.new.log;
        given = search rules;
        replayed = inr (record {
          fault = c.in-Err.fault;
          outcome_is = refl;
          part = rw device c.in-Err.ensures.effect_on_error;
          write = fault_means c.replay.result c.in-Err.fault _ c.in-Err.is c.replay.ensures.write;
        });
        failed = rw device (outcome_means c.replay.result c.in-Err.fault Read c.in-Err.is c.replay.ensures.read);
      });
    })

pub returns-clause-write : goal.returns-clause-write
returns-clause-write g c =
    means-write _ _ _ (outcome_means c.replay.result c.in-Err.fault Write c.in-Err.is c.replay.ensures.write)

pub returns-in_default-clause-executed : goal.returns-in_default-clause-executed
returns-in_default-clause-executed g c =
    inr (record {
      inputs = inputs_of c.in_ok-start.start;
      is_read = c.in_ok-start.ensures.read;
      report = inl (search rules);
    })
