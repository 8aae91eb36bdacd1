use Rattle.mls_commands.proofs.clap_command.with_group.Goals as goal

pub returns : goal.returns
returns c app made =
    let info = c.with-command.ensures _ _ made c.file-info.ensures in
    let tree = c.with-command-2.ensures _ _ info c.file-tree.ensures in
    let state = c.with-command-3.ensures _ _ tree c.file-state.ensures in
    c.with_rules.ensures _ (c.with-command-4.ensures _ _ state c.valued.ensures)
