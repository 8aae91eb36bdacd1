use Rattle.std.proofs.Common.{◌∙◌}
use Rattle.mls_show.proofs.PrintableTexts.{of_utf8, not_utf8}
use Rattle.mls_show.proofs.credential_text.is_printable_text.Goals as goal

pub returns-in-Ok : goal.returns-in-Ok
returns-in-Ok c = rw c.in-Ok.ensures.cases.0 at (c.has_printable.ensures ∙ of_utf8 _ (rw c.in-Ok.ensures.cases.0 c.in-Ok.ensures.cases.1))

pub returns-in-Err : goal.returns-in-Err
returns-in-Err c = not_utf8 _ c.in-Err.ensures.cases.0
