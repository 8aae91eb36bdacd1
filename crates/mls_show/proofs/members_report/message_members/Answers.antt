use Rattle.mls_show.proofs.members_report.message_members.Goals as goal

pub returns-in-GroupInfo-clause-report : goal.returns-in-GroupInfo-clause-report
returns-in-GroupInfo-clause-report c = rw c.in-GroupInfo.is c.extension_members.ensures.report
