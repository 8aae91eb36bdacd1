use Rattle.mls_commands.proofs.clap_command.validate_packages_command.Goals as goal

pub returns : goal.returns
returns c =
    let files = c.with-command.ensures _ _ c.titled.ensures (c.several-files.ensures _ c.word.ensures) in
    c.with_checker.ensures _ (c.with_rules-command.ensures _ files)
