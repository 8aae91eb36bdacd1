use Rattle.mls_commands.proofs.clap_command.replay_command.Goals as goal

pub returns : goal.returns
returns c =
    let group = c.with_group-command.ensures _ c.titled.ensures in
    let log = c.with-command.ensures _ _ group c.needed-log.ensures in
    let save = c.with-command-2.ensures _ _ log c.file-save.ensures in
    c.with_checker.ensures _ (c.with_time-command.ensures _ save)
