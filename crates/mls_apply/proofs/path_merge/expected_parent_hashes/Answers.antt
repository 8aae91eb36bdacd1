use Rattle.std.proofs.Common.{◌≡◌, ◌≢◌, ◌∙◌, [], Some, Ok, Err, length, ap, sym, inl, inr, arith}
use Rattle.std.specs.Prelude.{option_map, reverse}
use Rattle.std.proofs.lemmas.Result.{err_from_is_err_and}
use Rattle.mls_hash.specs.SuiteHash.{hash_of}
use Rattle.mls_apply.specs.declared.refusal.Refusal.TheVariants.{PathLength, OutOfMemory}
use Rattle.mls_apply.specs.PathRules.{path_length}
use Rattle.mls_apply.specs.PathParents.{carried, path_parents, parents_of_path}
use Rattle.mls_apply.specs.PathModel.{path_parents_model}
use Rattle.mls_tree.proofs.Choices.{is_less}
use Rattle.mls_apply.proofs.Paths.{filtered-parents}
use Rattle.mls_apply.proofs.Refusals.{keys-no_leaf, keys-other_length, keys-kept, keys-set, keys-by_leaf}
use Rattle.mls_apply.proofs.Routes.{expected-path_parents}
use Rattle.mls_apply.proofs.path_merge.expected_parent_hashes.Goals as goal

pub returns-in_err-node_indices-clause-refused : goal.returns-in_err-node_indices-clause-refused
returns-in_err-node_indices-clause-refused c =
    let p = err_from_is_err_and c.from_residual.result c.from_residual.ensures.1 in
    rw (p.1, p.2) (λ not_memory.
    elim c.in_err-node_indices.ensures.possible_errors [
      | inl e ↦ keys-no_leaf c.args.tree.now.tree c.args.committer c.args.keys.now (c.in_err-node_indices.ensures.outside.0 (ap Err e)) ∙ ap Some (sym e)
      | inr e ↦ absurd (not_memory e)
    ])

pub returns-then-keys-len-clause-refused : goal.returns-then-keys-len-clause-refused
returns-then-keys-len-clause-refused c _ =
    let long = ap length c.in_ok-node_indices.ensures.node_indices in
    let kept = c.in_ok-node_indices.node_indices.ok in
    let other : length c.args.keys.now ≢ path_length c.args.tree.now.tree c.args.committer = λ e. c.if-keys-len.true (omega arith) in
    keys-other_length c.args.tree.now.tree c.args.committer c.args.keys.now (is_less _ _ c.in_ok-node_indices.ensures.inside) other

pub new_parents-requires-clause-parents : goal.new_parents-requires-clause-parents
new_parents-requires-clause-parents c = filtered-parents c.args.tree.now.tree c.args.committer c.deref.result.now (c.deref.ensures.value ∙ c.in_ok-node_indices.ensures.node_indices)

pub returns-clause-hashes : goal.returns-clause-hashes
returns-clause-hashes c =
    let H = hash_of c.args.suite in
    let t = c.args.tree.now.tree in
    let node_indices = c.deref.ensures.value ∙ c.in_ok-node_indices.ensures.node_indices in
    let made : parents_of_path H t c.args.committer c.args.keys.now ≡ Some (path_parents_model c.in_ok-new.new) =
    (λ i. path_parents H t c.args.committer (reverse (sym node_indices i)) (reverse (sym c.in_ok-keys.ensures i)) []) ∙ c.in_ok-new.ensures in
    expected-path_parents H t c.args.committer c.args.keys.now ∙ ap (option_map carried) made ∙ ap Some (sym c.in_ok-carried.ensures)

pub returns-clause-rules_hold : goal.returns-clause-rules_hold
returns-clause-rules_hold c =
    let long = ap length c.in_ok-node_indices.ensures.node_indices in
    let kept = c.in_ok-node_indices.node_indices.ok in
    let same = c.if-keys-len.false in
    keys-kept c.args.tree.now.tree c.args.committer c.args.keys.now (is_less _ _ c.in_ok-node_indices.ensures.inside) (omega arith)

pub returns-in_err-node_indices-clause-sender_not_member : goal.returns-in_err-node_indices-clause-sender_not_member
returns-in_err-node_indices-clause-sender_not_member c =
    let p = err_from_is_err_and c.from_residual.result c.from_residual.ensures.1 in
    rw p.1 (keys-by_leaf c.args.tree.now.tree c.args.committer c.args.keys.now _ p.0 p.2 c.in_err-node_indices.ensures.outside)

pub returns-then-keys-len-clause-sender_not_member : goal.returns-then-keys-len-clause-sender_not_member
returns-then-keys-len-clause-sender_not_member c =
    keys-set c.args.tree.now.tree c.args.committer c.args.keys.now (Err PathLength) (λ e. cc) (is_less _ _ c.in_ok-node_indices.ensures.inside)

pub returns-in_err-keys-clause-sender_not_member : goal.returns-in_err-keys-clause-sender_not_member
returns-in_err-keys-clause-sender_not_member c =
    let p = err_from_is_err_and c.from_residual-in_err-keys.result c.from_residual-in_err-keys.ensures.1 in
    rw (p.1, p.2) (keys-set c.args.tree.now.tree c.args.committer c.args.keys.now (Err OutOfMemory) (λ e. cc) (is_less _ _ c.in_ok-node_indices.ensures.inside))

pub returns-in_err-new-clause-sender_not_member : goal.returns-in_err-new-clause-sender_not_member
returns-in_err-new-clause-sender_not_member c =
    let p = err_from_is_err_and c.from_residual-in_err-new.result c.from_residual-in_err-new.ensures.1 in
    rw (p.1, p.2) (keys-set c.args.tree.now.tree c.args.committer c.args.keys.now (Err OutOfMemory) (λ e. cc) (is_less _ _ c.in_ok-node_indices.ensures.inside))

pub returns-in_err-carried-clause-sender_not_member : goal.returns-in_err-carried-clause-sender_not_member
returns-in_err-carried-clause-sender_not_member c =
    let p = err_from_is_err_and c.from_residual-in_err-carried.result c.from_residual-in_err-carried.ensures.1 in
    rw (p.1, p.2) (keys-set c.args.tree.now.tree c.args.committer c.args.keys.now (Err OutOfMemory) (λ e. cc) (is_less _ _ c.in_ok-node_indices.ensures.inside))

pub returns-clause-sender_not_member : goal.returns-clause-sender_not_member
returns-clause-sender_not_member c =
    keys-set c.args.tree.now.tree c.args.committer c.args.keys.now (Ok c.in_ok-carried.field-0) (λ e. cc) (is_less _ _ c.in_ok-node_indices.ensures.inside)
