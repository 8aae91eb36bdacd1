use Rattle.std.proofs.Common.{◌++◌}
use Rattle.mls_show.specs.StateText.{extensions_line, pending_lines, added_lines}
use Rattle.mls_show.proofs.Appended.{with_before_on_ok}
use Rattle.mls_show.proofs.state_text.put_last_lines.Goals as goal

pub returns : goal.returns
returns c =
    let r = c.put_all_added.result in
    let s = c.args.state.now in
    let out0 = c.args.out.now.items in
    let out1 = c.put_extensions_line.new.out.items in
    let out2 = c.put_all_pending.new.out.items in
    let out3 = c.put_all_added.new.out.items in
    let extensions = extensions_line s.context.extensions in
    let pending = pending_lines s.known in
    let added = added_lines s.added in
    with_before_on_ok r out0 out1 out3 extensions (pending ++ added) (rw c.of-extensions.ensures at c.in_ok-put_extensions_line.ensures)
    (with_before_on_ok r out1 out2 out3 pending added (rw c.as_slice.ensures at c.in_ok-put_all_pending.ensures) c.put_all_added.ensures)
