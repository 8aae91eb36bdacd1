use Rattle.mls_tree.specs.Tree.{leaf_at}
use Rattle.mls_signatures.specs.SignaturesToVerify.{info_signatures, tree_signatures}
use Rattle.mls_signatures.proofs.Repeats.{extends-then}
use Rattle.mls_signatures.proofs.push_signatures.push_start_signatures.Goals as goal

pub returns : goal.returns
returns c =
    let info = c.args.info.now in
    let t = c.args.tree.now.tree in
    let context = info.context in
    rw (← c.is_supported_context.ensures, c.if-not-is_supported_context.false)
    (extends-then c.args.list.now (info_signatures info (leaf_at 0 t info.signer)) c.push_info_signature.new.list
    c.in_ok-push_info_signature.ensures c.push_tree_signatures.result
    (tree_signatures context.cipher_suite context.group_id 0 t) c.push_tree_signatures.new.list c.push_tree_signatures.ensures)
