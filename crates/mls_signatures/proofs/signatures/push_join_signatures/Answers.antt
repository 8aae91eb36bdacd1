use Rattle.mls_signatures.specs.SignaturesToVerify.{framed_content_signatures, join_list_signatures}
use Rattle.mls_signatures.proofs.Repeats.{extends-then}
use Rattle.mls_signatures.proofs.signatures.push_join_signatures.Goals as goal

pub returns-clause-signatures : goal.returns-clause-signatures
returns-clause-signatures c =
    let context = c.args.context.now in
    let auth = c.args.auth.now in
    let path = c.in-Some.path in
    rw (← c.content.ensures, c.in-Commit.is, c.in-Some.is)
    (extends-then c.args.list.now (framed_content_signatures context path.leaf_node.signature_key auth) c.push_framed_content_signature.new.list
    (rw (c.signature_key.ensures, c.deref.ensures) at c.in_ok-push_framed_content_signature.ensures) c.push_external_commit_signature.result
    (join_list_signatures context c.args.tree.now.tree c.in-Commit.commit path) c.push_external_commit_signature.new.list
    c.push_external_commit_signature.ensures.signatures)
