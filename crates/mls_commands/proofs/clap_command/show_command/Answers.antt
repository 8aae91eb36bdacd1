use Rattle.mls_commands.proofs.clap_command.show_command.Goals as goal

pub returns : goal.returns
returns c =
    let words = c.with_words-command.ensures _ c.titled.ensures in
    c.with.ensures _ _ words c.valued.ensures
