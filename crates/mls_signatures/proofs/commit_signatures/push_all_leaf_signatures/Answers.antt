use Rattle.std.proofs.lemmas.Result.{on_ok_weaker}
use Rattle.mls_signatures.specs.AddedLeaves.{IsListed}
use Rattle.mls_signatures.specs.SignaturesToVerify.{replaced_leaves, signatures_at}
use Rattle.mls_signatures.proofs.AddedLeaves.{all_extends, still_listed, values_map}
use Rattle.mls_signatures.proofs.commit_signatures.push_all_leaf_signatures.Goals as goal

pub returns : goal.returns
returns c = λ t after.
    let context = c.args.context.now in
    let old = c.args.list.now in
    let first = c.push_signatures_at.new.list in
    let leaves = c.args.outline.now.leaves.now in
    let replaced = rw (c.as_slice.ensures.value, c.in_ok-push_replaced_leaves.ensures, c.new-replaced.ensures.items) at c.in_ok-push_signatures_at.ensures t after in
    let listed =
    values_map (IsListed context old) (IsListed context first) leaves
    (still_listed context old (signatures_at context.cipher_suite context.group_id t (replaced_leaves c.args.items.now)) first replaced) c.requires.listed in
    on_ok_weaker c.push_added_leaf_signatures.result
    (all_extends context.cipher_suite context.group_id t (replaced_leaves c.args.items.now) leaves after.added
    old first c.push_added_leaf_signatures.new.list replaced)
    (c.push_added_leaf_signatures.ensures listed)
