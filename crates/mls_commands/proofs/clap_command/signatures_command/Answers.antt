use Rattle.mls_commands.proofs.clap_command.signatures_command.Goals as goal

pub returns : goal.returns
returns c =
    let group = c.with_group-command.ensures _ c.titled.ensures in
    let log = c.with-command.ensures _ _ group c.file-log.ensures in
    let packages = c.with-command-2.ensures _ _ log (c.several-packages.ensures _ c.file.ensures) in
    c.with.ensures _ _ packages c.file-receipts.ensures
