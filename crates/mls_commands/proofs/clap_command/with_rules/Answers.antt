use Rattle.mls_commands.proofs.clap_command.with_rules.Goals as goal

pub returns : goal.returns
returns c app made =
    let strict = c.with-command.ensures _ _ made (c.headed.ensures _ c.flag-strict.ensures) in
    c.with.ensures _ _ strict (c.headed-2.ensures _ c.valued-allow.ensures)
