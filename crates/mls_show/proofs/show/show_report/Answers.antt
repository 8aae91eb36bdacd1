use Rattle.mls_show.proofs.show.show_report.Goals as goal

pub unreachable-requires : goal.unreachable-requires
unreachable-requires c = c.requires c.in-Log.is
