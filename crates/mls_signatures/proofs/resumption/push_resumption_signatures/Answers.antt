use Rattle.mls_signatures.specs.SignaturesToVerify.{pending_signatures, tree_signatures}
use Rattle.mls_signatures.proofs.Repeats.{extends-then}
use Rattle.mls_signatures.proofs.resumption.push_resumption_signatures.Goals as goal

pub returns : goal.returns
returns c =
    let context = c.args.context.now in
    rw (← c.is_supported_context.ensures, c.if-not-is_supported_context.false)
    (extends-then c.args.list.now (tree_signatures context.cipher_suite context.group_id 0 c.args.tree.now.tree) c.push_tree_signatures.new.list
    c.in_ok-push_tree_signatures.ensures c.push_pending_signatures.result
    (pending_signatures context c.args.tree.now.tree c.args.known.now) c.push_pending_signatures.new.list c.push_pending_signatures.ensures)
