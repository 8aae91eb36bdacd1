use Rattle.std.proofs.Common.{◌∙◌, sym}
use Rattle.mls_strict.proofs.Senders.{senders-more, senders-none, senders-whole}
use Rattle.mls_strict.proofs.extension_lists.are_senders.Goals as goal

pub returns-then-at_end : goal.returns-then-at_end
returns-then-at_end c =
    let read = rw c.new-reader.ensures at c.in-Ok.ensures in
    let none = c.at_end.ensures.0 c.if-at_end.true in
    rw c.as_slice.ensures at c.are_readable.ensures ∙ sym (senders-whole c.args.data.now _ c.parse.new.reader read none)

pub returns-else-at_end : goal.returns-else-at_end
returns-else-at_end c =
    let read = rw c.new-reader.ensures at c.in-Ok.ensures in
    c.if-at_end.false ∙ sym (senders-more c.args.data.now _ c.parse.new.reader read (λ e. let bad = sym c.if-at_end.false ∙ c.at_end.ensures.1 e in absurd cc))

pub returns-in-Err : goal.returns-in-Err
returns-in-Err c = sym (senders-none c.args.data.now (rw c.new-reader.ensures at c.in-Err.ensures))
