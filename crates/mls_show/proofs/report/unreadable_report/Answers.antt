use Rattle.std.proofs.Common.{◌∙◌}
use Rattle.mls_show.proofs.report.unreadable_report.Goals as goal

pub returns : goal.returns
returns c = record {
  fault = c.args.fault.now;
  one_line = c.requires;
  text_is = c.of_text.ensures.bytes ∙ c.in_ok-line.ensures;
  verdict_is = c.of_text.ensures.verdict;
}
