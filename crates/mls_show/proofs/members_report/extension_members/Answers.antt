use Rattle.mls_show.proofs.members_report.extension_members.Goals as goal

pub returns-in-Some-clause-report : goal.returns-in-Some-clause-report
returns-in-Some-clause-report c = rw c.in-Some.ensures c.tree_members.ensures.report
