use Rattle.mls_apply.specs.AppliedList.{applied_tree}
use Rattle.mls_signatures.specs.AddedLeaves.{indices, leaves_of}
use Rattle.mls_signatures.specs.SignaturesToVerify.{path_signatures, signatures_at}
use Rattle.mls_signatures.proofs.Repeats.{extends-then}
use Rattle.mls_signatures.proofs.commit_signatures.push_new_leaf_signatures.Goals as goal

pub returns : goal.returns
returns c = λ t after.
    let commit = c.args.commit.now in
    let context = commit.context.now in
    let places = leaves_of commit.leaves c.args.items.now (applied_tree t (indices c.args.outline.now.leaves.now)) in
    extends-then c.args.list.now (signatures_at context.cipher_suite context.group_id t places) c.push_listed_leaf_signatures.new.list
    (c.in_ok-push_listed_leaf_signatures.ensures t after) c.push_path_signature.result
    (path_signatures context commit.committer commit.commit.now.path) c.push_path_signature.new.list c.push_path_signature.ensures
