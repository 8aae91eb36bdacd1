use Rattle.std.proofs.Common.{sym, ap, length}
use Rattle.mls_nodes.specs.RatchetTreeReading.{OwnedTreeReaderModel}
use Rattle.mls_nodes.proofs.OwnedBytes.{owned_step}
use Rattle.mls_nodes.proofs.ratchet_tree.owned_reader.OwnedTreeReader.next_entry.Goals as goal

pub returns-clause-entry : goal.returns-clause-entry
returns-clause-entry c =
    let i = c.self.inside in
    (owned_step c.in_ok-entry.entry i.progress c.read_next.new.progress c.args.self.now.reader c.as_slice.result.now i.bytes.items i.next i.body_len (length c.left-left.result.now)
    c.unread_parts-body.result.0 c.unread_parts-body.result.1 c.read_next.new.body (sym (ap (λ (m : OwnedTreeReaderModel). m.reader) c.self.view_is))
    (rw c.deref.ensures at c.as_slice.ensures.value) c.unread_parts-body.ensures.body c.unread_parts-body.ensures.after c.self.invariant.1 c.in_ok-entry.ensures.entry c.in_ok-entry.ensures.end (ap length c.left-left.ensures)).0

pub returns-clause-encoding : goal.returns-clause-encoding
returns-clause-encoding c =
    let i = c.self.inside in
    (owned_step c.in_ok-entry.entry i.progress c.read_next.new.progress c.args.self.now.reader c.as_slice.result.now i.bytes.items i.next i.body_len (length c.left-left.result.now)
    c.unread_parts-body.result.0 c.unread_parts-body.result.1 c.read_next.new.body (sym (ap (λ (m : OwnedTreeReaderModel). m.reader) c.self.view_is))
    (rw c.deref.ensures at c.as_slice.ensures.value) c.unread_parts-body.ensures.body c.unread_parts-body.ensures.after c.self.invariant.1 c.in_ok-entry.ensures.entry c.in_ok-entry.ensures.end (ap length c.left-left.ensures)).1
