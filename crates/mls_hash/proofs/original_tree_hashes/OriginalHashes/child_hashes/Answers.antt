use Rattle.std.proofs.Common.{◌∙◌, sym, subst, inl, inr}
use Rattle.std.specs.Prelude.{option_copied}
use Rattle.std.specs.List.Sorted.{IsNonDecreasing}
use Rattle.mls_tree.specs.NodeView.{HasChildren}
use Rattle.mls_hash.specs.SuiteHash.{hash_of}
use Rattle.mls_hash.specs.OriginalTreeHashes.{AreKnownHashes}
use Rattle.mls_hash.proofs.Alike.{left_under, right_under}
use Rattle.mls_hash.proofs.Known.{child_hashes, here, list_under, known_more}
use Rattle.mls_hash.proofs.original_tree_hashes.OriginalHashes.child_hashes.Goals.{then-not-is_empty, else-not-is_empty}
use Rattle.mls_hash.proofs.original_tree_hashes.OriginalHashes.child_hashes.Goals as goal

pub new-left_out-requires : goal.new-left_out-requires
new-left_out-requires c =
    let w = c.in-Some-Parent-Some-default-default-default in
    let t = c.args.tree.now.tree in
    let part = subst (λ o. HasChildren t c.args.node_index w.left w.right w.middle (option_copied o)) w.field-0-0-is (rw w.field-0-is at w.ensures) in
    subst IsNonDecreasing (sym c.as_slice.ensures.items) (c.requires.sorted c.args.node_index w.parent.now (here t _ _ _ _ _ part))

pub original_hash-requires-clause-under : goal.original_hash-requires-clause-under
original_hash-requires-clause-under c =
    let w = c.in-Some-Parent-Some-default-default-default in
    let t = c.args.tree.now.tree in
    let part = subst (λ o. HasChildren t c.args.node_index w.left w.right w.middle (option_copied o)) w.field-0-0-is (rw w.field-0-is at w.ensures) in
    let cut = c.split-before.ensures in
    left_under t _ _ _ _ _ part c.new-left_out.result _ _ cut.whole cut.front cut.rest
    (list_under t _ _ _ _ w.parent.now part c.new-left_out.result (c.new-left_out.ensures ∙ c.as_slice.ensures.items) c.requires.own_leaves)

pub original_hash-requires-2-clause-under : goal.original_hash-requires-2-clause-under
original_hash-requires-2-clause-under c =
    let w = c.in-Some-Parent-Some-default-default-default in
    let t = c.args.tree.now.tree in
    let part = subst (λ o. HasChildren t c.args.node_index w.left w.right w.middle (option_copied o)) w.field-0-0-is (rw w.field-0-is at w.ensures) in
    let cut = c.split-before.ensures in
    right_under t _ _ _ _ _ part c.new-left_out.result _ _ cut.whole cut.front cut.rest
    (list_under t _ _ _ _ w.parent.now part c.new-left_out.result (c.new-left_out.ensures ∙ c.as_slice.ensures.items) c.requires.own_leaves)

pub returns-clause-hashes : goal.returns-clause-hashes
returns-clause-hashes c =
    let w = c.in-Some-Parent-Some-default-default-default in
    let t = c.args.tree.now.tree in
    let part = subst (λ o. HasChildren t c.args.node_index w.left w.right w.middle (option_copied o)) w.field-0-0-is (rw w.field-0-is at w.ensures) in
    let cut = c.split-before.ensures in
    child_hashes t _ _ _ _ w.parent.now part c.new-left_out.result (c.new-left_out.ensures ∙ c.as_slice.ensures.items) (hash_of c.args.suite) c.requires.own_leaves
    _ _ cut.whole cut.front cut.rest c.in_ok-left.left c.in_ok-right.right c.in_ok-left.ensures c.in_ok-right.ensures

pub returns-clause-known : goal.returns-clause-known
returns-clause-known c =
    let w = c.in-Some-Parent-Some-default-default-default in
    let t = c.args.tree.now.tree in
    let part = subst (λ o. HasChildren t c.args.node_index w.left w.right w.middle (option_copied o)) w.field-0-0-is (rw w.field-0-is at w.ensures) in
    let cut = c.split-before.ensures in
    let H = hash_of c.args.suite in
    let known = c.requires.known in
    elim c.if-not-is_empty.branch [
      | then-not-is_empty w' ↦
          (elim (w'.store.ensures) [
            | inl same ↦ subst (λ k. AreKnownHashes H t k) (sym (w'.self-is ∙ same)) known
            | inr kept ↦
                subst (λ k. AreKnownHashes H t k) (sym (w'.self-is ∙ kept))
                (known_more t _ _ _ _ w.parent.now part c.new-left_out.result (c.new-left_out.ensures ∙ c.as_slice.ensures.items) H c.requires.own_leaves
                _ _ cut.whole cut.front cut.rest c.in_ok-left.left c.in_ok-right.right c.in_ok-left.ensures c.in_ok-right.ensures
                _ w'.hash_parent-own.result known w'.hash_parent-own.ensures)
          ])
      | else-not-is_empty w' ↦ subst (λ k. AreKnownHashes H t k) (sym w'.self-is) known
    ]
