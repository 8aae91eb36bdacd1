use Rattle.std.proofs.Common.{sym, ◌∙◌}
use Rattle.std.proofs.lemmas.Str.{IsUtf8-past_char, chars_past_char}
use Rattle.mls_show.proofs.PrintableTexts.{no_chars}
use Rattle.mls_show.proofs.credential_text.has_printable.Goals as goal

pub returns-then-not-is_printable : goal.returns-then-not-is_printable
returns-then-not-is_printable c =
    let held = c.loop-c.invariant in
    let step = chars_past_char _ _ c.in-Some.c held.0 c.in-Some.ensures.steps.0 in
    let counts = sym c.is_printable.ensures ∙ c.if-not-is_printable.true in
    rw (step, counts) at held.1

pub loop-c-preserved : goal.loop-c-preserved
loop-c-preserved c =
    let held = c.loop-c.invariant in
    let parts = c.in-Some.ensures.steps.0 in
    let counts = sym c.is_printable.ensures ∙ c.if-not-is_printable.false in
    (IsUtf8-past_char _ _ c.in-Some.c held.0 parts, rw (chars_past_char _ _ c.in-Some.c held.0 parts, counts) at held.1)

pub returns : goal.returns
returns c = sym (no_chars _ c.in-None.ensures.steps.0.0) ∙ c.loop-c.invariant.1
