use Rattle.std.proofs.Common.{◌∙◌, sym, refl}
use Rattle.mls_strict.proofs.Senders.{are_readable, go-on, none_left, none-read, sender-shortens, unread-found}
use Rattle.mls_strict.proofs.extension_lists.are_readable.Goals as goal

pub returns-then-has_unread_credential : goal.returns-then-has_unread_credential
unfolding are_readable
returns-then-has_unread_credential c =
    let t = c.loop-left-test.ensures in
    let inv = c.loop-left.invariant in
    sym (unread-found inv.0 c.loop-left.left (λ e. let bad = t.1 e in absurd cc) inv.1 (sym c.has_unread_credential.ensures ∙ c.if-has_unread_credential.true)) ∙ inv.2

pub returns-in_default : goal.returns-in_default
unfolding are_readable
returns-in_default c =
    let t = c.loop-left-test.ensures in
    let inv = c.loop-left.invariant in
    let read = sym c.has_unread_credential.ensures ∙ c.if-has_unread_credential.false in
    sym (none-read inv.0 c.loop-left.left (λ e. let bad = t.1 e in absurd cc) inv.1 read c.in_default.ensures) ∙ inv.2

pub loop-left-smaller : goal.loop-left-smaller
loop-left-smaller c = sender-shortens c.loop-left.left c.skip_sender.new.reader c.in-Ok.ensures.0 c.in-Ok.ensures.1

pub loop-left-preserved : goal.loop-left-preserved
loop-left-preserved c =
    let t = c.loop-left-test.ensures in
    let inv = c.loop-left.invariant in
    let read = sym c.has_unread_credential.ensures ∙ c.if-has_unread_credential.false in
    go-on inv.0 c.loop-left.left c.skip_sender.new.reader c.in-Ok.ensures.0 _ (λ e. let bad = t.1 e in absurd cc) read c.in-Ok.ensures.1 inv.1 inv.2

pub returns : goal.returns
unfolding are_readable
returns c =
    let t = c.loop-left-test.ensures in
    let inv = c.loop-left.invariant in
    sym (none_left inv.0 c.loop-left.left (t.0 refl)) ∙ inv.2
