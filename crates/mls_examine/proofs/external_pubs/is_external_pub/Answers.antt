use Rattle.std.proofs.Common.{◌∙◌, sym, ap}
use Rattle.mls_examine.specs.GroupInfos.{is_kem_key_read}
use Rattle.mls_examine.proofs.ReadKeys.{read_more, read_none, read_whole}
use Rattle.mls_examine.proofs.external_pubs.is_external_pub.Goals as goal

pub returns-then-at_end : goal.returns-then-at_end
returns-then-at_end c =
    let read = rw c.new-reader.ensures at c.in-Ok.ensures in
    let none = c.at_end.ensures.0 c.if-at_end.true in
    rw c.as_slice.ensures at c.is_kem_key.ensures
    ∙ sym (ap (is_kem_key_read c.args.rules c.args.suite) (read_whole c.args.data.now _ c.parse.new.reader read none))

pub returns-else-at_end : goal.returns-else-at_end
returns-else-at_end c =
    let read = rw c.new-reader.ensures at c.in-Ok.ensures in
    c.if-at_end.false
    ∙ sym (ap (is_kem_key_read c.args.rules c.args.suite)
    (read_more c.args.data.now _ c.parse.new.reader read (λ e. let bad = sym c.if-at_end.false ∙ c.at_end.ensures.1 e in absurd cc)))

pub returns-in-Err : goal.returns-in-Err
returns-in-Err c = sym (ap (is_kem_key_read c.args.rules c.args.suite) (read_none c.args.data.now (rw c.new-reader.ensures at c.in-Err.ensures)))
