use Rattle.mls_commands.proofs.clap_command.check_command.Goals as goal

pub returns : goal.returns
returns c = c.with_words.ensures _ c.titled.ensures
