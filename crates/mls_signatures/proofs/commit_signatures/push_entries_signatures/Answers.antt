use Rattle.std.proofs.Common.{refl}
use Rattle.mls_signatures.specs.SignaturesToVerify.{entry_signatures, entries_signatures}
use Rattle.mls_signatures.proofs.LeafLists.{each-next, each-all}
use Rattle.mls_signatures.proofs.commit_signatures.push_entries_signatures.Goals as goal

pub loop-entry-preserved : goal.loop-entry-preserved
loop-entry-preserved c =
    let f = entries_signatures c.args.context.now c.args.committer in
    each-next f (entry_signatures c.args.context.now c.args.committer) (λ x xs. refl) refl c.args.entries.now c.args.list.now
    c.loop-entry.entry-index c.loop-entry.list c.loop-entry.invariant c.entry-item.result c.entry-item.result c.loop-entry-test.true c.entry-item.is
    c.push_entry_signatures.new.list c.in_ok-push_entry_signatures.ensures

pub returns : goal.returns
returns c =
    let f = entries_signatures c.args.context.now c.args.committer in
    each-all f (entry_signatures c.args.context.now c.args.committer) (λ x xs. refl) refl c.args.entries.now c.args.list.now
    c.loop-entry.entry-index c.loop-entry.list c.loop-entry.invariant c.loop-entry-test.false
