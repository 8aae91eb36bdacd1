use Rattle.std.proofs.Common.{◌≡◌, ◌∙◌, ◌++◌, ap, subst}
use Rattle.std.proofs.lemmas.Result.{on_ok_weaker}
use Rattle.std.specs.BTreeSet.{contains}
use Rattle.std.specs.Ordering.{nat_cmp}
use Rattle.std.specs.Prelude.{filter}
use Rattle.mls_signatures.specs.AddedLeaves.{AppendsSignatures, indices}
use Rattle.mls_signatures.specs.SignaturesToVerify.{is_fresh_leaf, replaced_leaves, signatures_at}
use Rattle.mls_signatures.proofs.FreshLeaves.{fresh_extends, kept_are}
use Rattle.mls_signatures.proofs.commit_signatures.push_fresh_leaf_signatures.Goals as goal

pub returns : goal.returns
returns c = λ t after.
    let context = c.args.context.now in
    let leaves = c.args.outline.now.leaves.now in
    let others = c.in_ok-others.others in
    let old = c.args.list.now in
    let first = c.push_signatures_at.new.list in
    let replaced = replaced_leaves c.args.items.now in
    let all : c.as_slice.result.now ≡ replaced =
    c.as_slice.ensures.value ∙ c.in_ok-push_replaced_leaves.ensures ∙ ap (λ js. js ++ replaced) c.new-replaced.ensures.items in
    let places : c.as_slice-2.result.now ≡ filter (is_fresh_leaf (indices leaves) t) replaced =
    c.as_slice-2.ensures.value ∙ c.in_ok-push_contained.ensures
    ∙ (λ i. c.new-kept.ensures.items i ++ filter (contains nat_cmp others) (all i))
    ∙ kept_are t leaves after.added others c.in_ok-others.ensures replaced in
    on_ok_weaker c.push_other_leaf_signatures.result
    (fresh_extends context.cipher_suite context.group_id t replaced leaves after.added old first c.push_other_leaf_signatures.new.list
    (subst (λ js. AppendsSignatures old (signatures_at context.cipher_suite context.group_id t js) first) places (c.in_ok-push_signatures_at.ensures t after)))
    c.push_other_leaf_signatures.ensures
