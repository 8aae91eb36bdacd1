use Rattle.mls_commands.proofs.clap_command.with_time.Goals as goal

pub returns : goal.returns
returns c app made = c.with.ensures _ _ made c.valued.ensures
