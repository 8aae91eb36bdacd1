use Rattle.mls_msgs.specs.declared.framed_content.Sender.TheVariants.{Member}
use Rattle.mls_apply.specs.AppliedList.{outcome}
use Rattle.mls_signatures.specs.AddedLeaves.{leaves_of}
use Rattle.mls_signatures.specs.SignaturesToVerify.{applied_list_signatures, entries_signatures}
use Rattle.mls_signatures.proofs.Repeats.{extends-then}
use Rattle.mls_signatures.proofs.commit_signatures.push_list_signatures.Goals as goal

pub returns-clause-signatures : goal.returns-clause-signatures
returns-clause-signatures c =
    let commit = c.args.commit.now in
    let context = commit.context.now in
    extends-then c.args.list.now (entries_signatures context (Member commit.committer) commit.commit.now.proposals) c.push_entries_signatures.new.list
    (rw c.as_slice-entries.ensures at c.in_ok-push_entries_signatures.ensures) c.push_applied_list_signatures.result
    (applied_list_signatures (leaves_of commit.leaves) context commit.committer commit.commit.now.path c.args.items.now (outcome c.args.items.now c.args.tree.now.tree))
    c.push_applied_list_signatures.new.list c.push_applied_list_signatures.ensures.signatures

pub push_applied_list_signatures-requires-clause-listed : goal.push_applied_list_signatures-requires-clause-listed
push_applied_list_signatures-requires-clause-listed c =
    c.requires.values c.args.list.now c.push_entries_signatures.new.list (rw c.as_slice-entries.ensures at c.in_ok-push_entries_signatures.ensures)
