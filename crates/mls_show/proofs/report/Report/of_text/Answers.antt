use Rattle.std.proofs.Common.{ap}
use Rattle.mls_show.proofs.report.Report.of_text.Goals as goal

pub returns-clause-bytes : goal.returns-clause-bytes
returns-clause-bytes c = ap (λ v. v.items) c.into_bytes.ensures.value
