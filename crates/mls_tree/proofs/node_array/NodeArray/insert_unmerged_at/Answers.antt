use Rattle.std.proofs.Common.{ap, ◌∙◌, sym, Some}
use Rattle.std.specs.Prelude.{option_map}
use Rattle.mls_tree.specs.TreeOperations.{with_unmerged, without_unmerged}
use Rattle.mls_tree.proofs.Entering.{blank-stays, still-parent, changed-as, unchanged-as, changed_back-as, on_ok, on_err, if_ok, on_true, on_false}
use Rattle.mls_tree.proofs.node_array.NodeArray.insert_unmerged_at.Goals as goal

pub returns-in_default-clause-same : goal.returns-in_default-clause-same
returns-in_default-clause-same c =
    blank-stays c.args.self.now.tree c.replace_parent.new.self.tree c.args.node_index c.requires.there
    (sym (ap (λ o. option_map (λ b. b.value) o) c.in_default.is) ∙ c.replace_parent.ensures.former) c.replace_parent.ensures.put

pub replace_parent-requires-2 : goal.replace_parent-requires-2
replace_parent-requires-2 c = still-parent c.args.self.now.tree c.replace_parent.new.self.tree c.args.node_index c.requires.there c.replace_parent.ensures.put

pub returns-clause-in_lists : goal.returns-clause-in_lists
returns-clause-in_lists c =
    let parent = c.deref_mut.result.now in
    let at = ap (λ v. Some v) c.deref_mut.ensures.value ∙ sym (ap (λ o. option_map (λ b. b.value) o) c.in-Some.is) ∙ c.replace_parent.ensures.former in
    on_ok c.insert_index-changed.result
    (λ in_lists. changed-as c.args.self.now.tree c.replace_parent.new.self.tree c.replace_parent-2.new.self.tree c.args.node_index (Some parent) _ c.requires.there at
    c.replace_parent.ensures.put c.replace_parent-2.ensures.put (with_unmerged c.args.index) (ap (λ xs. Some (record parent { unmerged = xs })) in_lists))
    c.insert_index-changed.ensures.in_lists

pub returns-clause-back : goal.returns-clause-back
returns-clause-back c =
    let parent = c.deref_mut.result.now in
    let at = ap (λ v. Some v) c.deref_mut.ensures.value ∙ sym (ap (λ o. option_map (λ b. b.value) o) c.in-Some.is) ∙ c.replace_parent.ensures.former in
    if_ok c.insert_index-changed.result
    (λ changed. on_true changed
    (λ back. changed_back-as c.args.self.now.tree c.replace_parent.new.self.tree c.replace_parent-2.new.self.tree c.args.node_index (Some parent) _ c.requires.there at
    c.replace_parent.ensures.put c.replace_parent-2.ensures.put (without_unmerged c.args.index) (ap (λ xs. Some (record parent { unmerged = xs })) back)))
    c.insert_index-changed.ensures.back

pub returns-clause-same : goal.returns-clause-same
returns-clause-same c =
    let parent = c.deref_mut.result.now in
    let at = ap (λ v. Some v) c.deref_mut.ensures.value ∙ sym (ap (λ o. option_map (λ b. b.value) o) c.in-Some.is) ∙ c.replace_parent.ensures.former in
    if_ok c.insert_index-changed.result
    (λ changed. on_false changed
    (λ same. unchanged-as c.args.self.now.tree c.replace_parent.new.self.tree c.replace_parent-2.new.self.tree c.args.node_index (Some parent) _ c.requires.there at
    c.replace_parent.ensures.put c.replace_parent-2.ensures.put (ap (λ xs. Some (record parent { unmerged = xs })) same)))
    c.insert_index-changed.ensures.same

pub returns-clause-unchanged_on_error : goal.returns-clause-unchanged_on_error
returns-clause-unchanged_on_error c =
    let parent = c.deref_mut.result.now in
    let at = ap (λ v. Some v) c.deref_mut.ensures.value ∙ sym (ap (λ o. option_map (λ b. b.value) o) c.in-Some.is) ∙ c.replace_parent.ensures.former in
    on_err c.insert_index-changed.result
    (λ same. unchanged-as c.args.self.now.tree c.replace_parent.new.self.tree c.replace_parent-2.new.self.tree c.args.node_index (Some parent) _ c.requires.there at
    c.replace_parent.ensures.put c.replace_parent-2.ensures.put (ap (λ xs. Some (record parent { unmerged = xs })) same))
    c.insert_index-changed.ensures.unchanged_on_error
