use Rattle.mls_commands.proofs.clap_command.validate_command.Goals as goal

pub returns : goal.returns
returns c = c.with_checker.ensures _ (c.with_group-command.ensures _ c.titled.ensures)
