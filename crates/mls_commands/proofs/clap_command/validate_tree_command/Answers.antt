use Rattle.mls_commands.proofs.clap_command.validate_tree_command.Goals as goal

pub returns : goal.returns
returns c =
    let context = c.with-command.ensures _ _ c.titled.ensures c.needed-context.ensures in
    let tree = c.with-command-2.ensures _ _ context c.needed-tree.ensures in
    c.with_checker.ensures _ (c.with_rules-command.ensures _ tree)
