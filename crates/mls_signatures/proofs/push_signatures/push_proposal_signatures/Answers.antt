use Rattle.mls_signatures.specs.SignaturesToVerify.{leaf_signatures, package_signatures}
use Rattle.mls_signatures.proofs.Repeats.{extends-then}
use Rattle.mls_signatures.proofs.push_signatures.push_proposal_signatures.Goals as goal

pub returns-in_ok-push_leaf_signature-in-Add : goal.returns-in_ok-push_leaf_signature-in-Add
returns-in_ok-push_leaf_signature-in-Add c =
    let context = c.args.context.now in
    let k = c.in-Add.key_package in
    rw c.in-Add.is
    (extends-then c.args.list.now (leaf_signatures context.cipher_suite context.group_id 0 k.leaf_node) c.push_leaf_signature.new.list
    (rw (c.deref-in-Add.ensures, c.deref.ensures) at c.in_ok-push_leaf_signature-in-Add.ensures) c.push_package_signature.result
    (package_signatures context.cipher_suite k) c.push_package_signature.new.list
    (rw c.deref-in-Add-2.ensures at c.push_package_signature.ensures))
