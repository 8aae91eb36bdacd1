use Rattle.std.proofs.Common.{◌≡◌, ◌∙◌, [], Some, length, map, sym, ap}
use Rattle.std.specs.Prelude.{option_map, reverse}
use Rattle.std.proofs.lemmas.List.{length-map}
use Rattle.mls_msgs.specs.declared.commit.PathNode.{PathNode}
use Rattle.mls_tree.specs.Tree.{IsParentNodeIndex}
use Rattle.mls_hash.specs.SuiteHash.{hash_of}
use Rattle.mls_apply.specs.PathRules.{node_keys}
use Rattle.mls_apply.specs.PathParents.{path_parents, parents_of_path}
use Rattle.mls_apply.specs.PathModel.{path_parents_model}
use Rattle.mls_apply.proofs.Making.{path_parents-parents}
use Rattle.mls_apply.proofs.Paths.{filtered-parents}
use Rattle.mls_apply.proofs.Refusals.{has_expected_hash-path_parents, hash-refused, hash-kept}
use Rattle.mls_apply.proofs.path_merge.new_nodes.Goals as goal

pub new_parents-requires-clause-parents : goal.new_parents-requires-clause-parents
new_parents-requires-clause-parents c =
    filtered-parents c.args.tree.now.tree c.args.path.now.leaf c.args.node_indices.now c.requires.node_indices

pub new_parents-requires-clause-paired : goal.new_parents-requires-clause-paired
new_parents-requires-clause-paired c =
    ap length (c.in_ok-keys.ensures ∙ ap (map (λ (n : PathNode). n.encryption_key)) c.as_slice.ensures)
    ∙ length-map c.args.path.now.path.now.nodes (λ (n : PathNode). n.encryption_key)
    ∙ c.requires.paired

pub returns-then-not-carries-clause-refused : goal.returns-then-not-carries-clause-refused
returns-then-not-carries-clause-refused c _ =
    let H = hash_of c.args.suite in
    let t = c.args.tree.now.tree in
    let node_indices = c.requires.node_indices in
    let keys = c.in_ok-keys.ensures ∙ ap (map (λ (n : PathNode). n.encryption_key)) c.as_slice.ensures in
    let made : parents_of_path H t c.args.path.now.leaf (node_keys c.args.path.now.path.now) ≡ Some (path_parents_model c.in_ok-new.new) =
    (λ i. path_parents H t c.args.path.now.leaf (reverse (sym node_indices i)) (reverse (sym keys i)) []) ∙ c.in_ok-new.ensures in
    hash-refused H c.args.path.now.path.now t c.args.path.now.leaf
    (has_expected_hash-path_parents H c.args.path.now.path.now t c.args.path.now.leaf (path_parents_model c.in_ok-new.new) c.carries.result made (rw (c.source.ensures, c.deref.ensures) at c.carries.ensures) ∙ c.if-not-carries.true)

pub returns-clause-made : goal.returns-clause-made
returns-clause-made c =
    let H = hash_of c.args.suite in
    let t = c.args.tree.now.tree in
    let keys = c.in_ok-keys.ensures ∙ ap (map (λ (n : PathNode). n.encryption_key)) c.as_slice.ensures in
    let made : parents_of_path H t c.args.path.now.leaf (node_keys c.args.path.now.path.now) ≡ Some (path_parents_model c.in_ok-new.new) =
    (λ i. path_parents H t c.args.path.now.leaf (reverse (sym c.requires.node_indices i)) (reverse (sym keys i)) []) ∙ c.in_ok-new.ensures in
    record {
      leaf = c.in_ok-leaf.ensures;
      path_parents = ap (option_map (λ r. r.changes)) made;
      inside = c.requires.inside;
      parents =
          path_parents-parents (IsParentNodeIndex t) H t c.args.path.now.leaf c.args.node_indices.now c.in_ok-keys.keys.items c.in_ok-new.new c.in_ok-new.ensures
          (filtered-parents t c.args.path.now.leaf c.args.node_indices.now c.requires.node_indices);
    }

pub returns-clause-rules_hold : goal.returns-clause-rules_hold
returns-clause-rules_hold c =
    let H = hash_of c.args.suite in
    let t = c.args.tree.now.tree in
    let node_indices = c.requires.node_indices in
    let keys = c.in_ok-keys.ensures ∙ ap (map (λ (n : PathNode). n.encryption_key)) c.as_slice.ensures in
    let made : parents_of_path H t c.args.path.now.leaf (node_keys c.args.path.now.path.now) ≡ Some (path_parents_model c.in_ok-new.new) =
    (λ i. path_parents H t c.args.path.now.leaf (reverse (sym node_indices i)) (reverse (sym keys i)) []) ∙ c.in_ok-new.ensures in
    hash-kept H c.args.path.now.path.now t c.args.path.now.leaf
    (has_expected_hash-path_parents H c.args.path.now.path.now t c.args.path.now.leaf (path_parents_model c.in_ok-new.new) c.carries.result made (rw (c.source.ensures, c.deref.ensures) at c.carries.ensures) ∙ c.if-not-carries.false)
