use Rattle.mls_commands.proofs.clap_command.with_checker.Goals as goal

pub returns : goal.returns
returns c app made =
    let trust = c.with-command.ensures _ _ made (c.headed.ensures _ c.flag-trust.ensures) in
    c.with.ensures _ _ trust (c.headed-2.ensures _ c.file-receipts.ensures)
