use Rattle.std.proofs.Common.{◌≡◌, ◌∙◌, ap, sym, refl, subst, rules, map, List, [], ℕ, Err}
use Rattle.std.specs.Prelude.{All}
use Rattle.mls_tree.specs.Tree.{leaf_count}
use Rattle.mls_tree.specs.MergedLists.{replacement}
use Rattle.mls_tree.proofs.Refusals.{handed_on, err_same}
use Rattle.mls_tree.proofs.AlongPaths.{IsParentNodeIndex-within}
use Rattle.mls_tree.proofs.MergedParents.{all_put, all_put-step, IsPutWithin, within-step, within-popped, new_parents-within, all_put-merged, add_all_unmerged-merged, overfills-below}
use Rattle.mls_tree.proofs.journal.Journal.replace_lists.Goals as goal

pub returns-in_err-parents-clause-too_many_leaves : goal.returns-in_err-parents-clause-too_many_leaves
returns-in_err-parents-clause-too_many_leaves c h =
    let many = err_same _ _ _ (sym (handed_on c.from_residual.result c.in_err-parents.field-0.0 c.from_residual.ensures.0 c.from_residual.ensures.1) ∙ h) in
    overfills-below c.args.indices.now c.args.tree.now.tree ∙ c.in_err-parents.ensures.too_many_leaves (ap (λ e. Err e) many)

pub loop-new-init : goal.loop-new-init
loop-new-init c =
    let t = c.args.tree.now.tree in
    record {
      left = refl;
      within = subst (All (IsPutWithin 0 (leaf_count t))) (sym c.in_ok-parents.ensures.parents) (new_parents-within 0 t c.args.indices.now);
      same_before = refl;
      hashes = λ all. all;
    }

pub put_parent-requires : goal.put_parent-requires
put_parent-requires c =
    let t = c.loop-new.tree.tree in
    IsParentNodeIndex-within t c.in-Some.new.node_index (within-popped (leaf_count t) c.loop-new.parents.items c.pop.new.self.items c.in-Some.new c.in-Some.ensures.items c.loop-new.invariant.within).1

pub loop-new-preserved : goal.loop-new-preserved
loop-new-preserved c =
    let t = c.loop-new.tree.tree in
    let u = c.put_parent.new.tree.tree in
    let all = c.loop-new.parents.items in
    let rest = c.pop.new.self.items in
    let m = c.in-Some.new in
    let split = c.in-Some.ensures.items in
    let put = c.in_ok-put_parent.ensures.put in
    let now = c.loop-new.invariant in
    record {
      left = now.left ∙ all_put-step t u all rest m split put;
      within = within-step t u all rest m split put now.within;
      same_before = c.in_ok-put_parent.ensures.before ∙ now.same_before;
      hashes = λ all. c.in_ok-put_parent.ensures.hashes (now.hashes all);
    }

pub returns-clause-in_lists : goal.returns-clause-in_lists
returns-clause-in_lists c =
    let t = c.args.tree.now.tree in
    let is : List ℕ = c.args.indices.now in
    let none : c.loop-new.parents.items ≡ [] = search rules in
    sym
    (add_all_unmerged-merged is t
    ∙ sym (all_put-merged 0 t is)
    ∙ ap (all_put 0 t) (sym c.in_ok-parents.ensures.parents)
    ∙ c.loop-new.invariant.left
    ∙ ap (λ v. all_put 0 c.loop-new.tree.tree (map replacement v)) none)

pub returns-clause-fits : goal.returns-clause-fits
returns-clause-fits c = overfills-below c.args.indices.now c.args.tree.now.tree ∙ c.in_ok-parents.ensures.fits
