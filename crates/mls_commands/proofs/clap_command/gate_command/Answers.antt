use Rattle.mls_commands.proofs.clap_command.gate_command.Goals as goal

pub returns : goal.returns
returns c =
    let group = c.with_group-command.ensures _ c.titled.ensures in
    c.with_checker.ensures _ (c.with_time-command.ensures _ group)
