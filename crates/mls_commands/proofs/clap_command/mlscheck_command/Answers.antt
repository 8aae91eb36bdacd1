use Rattle.mls_commands.proofs.clap_command.mlscheck_command.Goals as goal

pub returns : goal.returns
returns c =
    let one = c.with_command-command.ensures _ _ c.bare_command.ensures c.show_command.ensures in
    let two = c.with_command-command-2.ensures _ _ one c.validate_tree_command.ensures in
    let three = c.with_command-command-3.ensures _ _ two c.validate_command.ensures in
    let four = c.with_command-command-4.ensures _ _ three c.validate_packages_command.ensures in
    let five = c.with_command-command-5.ensures _ _ four c.replay_command.ensures in
    let six = c.with_command-command-6.ensures _ _ five c.signatures_command.ensures in
    let seven = c.with_command-command-7.ensures _ _ six c.gate_command.ensures in
    c.with_command.ensures _ _ seven c.check_command.ensures
