use Rattle.mls_commands.proofs.clap_command.with_words.Goals as goal

pub returns : goal.returns
returns c app made =
    let kind = c.with-command.ensures _ _ made c.word.ensures in
    c.with.ensures _ _ kind c.word-2.ensures
