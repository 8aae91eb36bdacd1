use Rattle.std.proofs.Common.{refl, sym, ap, ◌∙◌, subst}
use Rattle.std.specs.Prelude.{not}
use Rattle.std.specs.Option.{option_copied}
use Rattle.std.proofs.lemmas.Bool.{false≢true}
use Rattle.mls_hash.specs.SuiteHash.{hash_of}
use Rattle.mls_tree.specs.NodeView.{HasChildren}
use Rattle.mls_check.specs.ParentHashMarks.{IsChainPredecessorIn}
use Rattle.mls_check.proofs.Reaching.{marks-left, marks-right, marks-through, other_way, no_way}
use Rattle.mls_check.proofs.parent_hash_validity.is_parent_hash_valid.Goals as goal

pub returns-then-is_none-2-clause-marks : goal.returns-then-is_none-2-clause-marks
returns-then-is_none-2-clause-marks c =
    let w = c.in-Some-Parent-Some-default-default-default in
    let t = c.args.tree.now.tree in
    let h = subst (λ o. HasChildren t c.args.node_index w.left w.right w.field-0-3 (option_copied o)) w.field-0-0-is (rw w.field-0-is at w.ensures) in
    let k = subst (λ xs. IsChainPredecessorIn t xs w.left c.args.marks.now c.in_ok-from_left.from_left) c.as_slice-list.ensures.items c.in_ok-from_left.ensures in
    let j = subst (λ xs. IsChainPredecessorIn t xs w.right c.args.marks.now c.in_ok-from_right.from_right) c.as_slice-list.ensures.items c.in_ok-from_right.ensures in (
      λ f. absurd (false≢true f),
      λ r. absurd
          (no_way (hash_of c.args.suite) t c.args.node_index c.in_ok-from_left.from_left c.in_ok-from_right.from_right (c.is_none.ensures ∙ ap not c.if-is_none.true) (c.is_none-then-is_none.ensures ∙ ap not c.if-is_none-2.true)
          (marks-through (hash_of c.args.suite) t c.args.node_index w.left w.right w.field-0-3 w.parent.now h c.requires.consistent c.args.marks.now c.requires.marked c.in_ok-from_left.from_left k c.in_ok-from_right.from_right j r)),
    )

pub returns-then-is_linked-clause-marks : goal.returns-then-is_linked-clause-marks
returns-then-is_linked-clause-marks c =
    let w = c.in-Some-Parent-Some-default-default-default in
    let t = c.args.tree.now.tree in
    let h = subst (λ o. HasChildren t c.args.node_index w.left w.right w.field-0-3 (option_copied o)) w.field-0-0-is (rw w.field-0-is at w.ensures) in
    let k = subst (λ xs. IsChainPredecessorIn t xs w.left c.args.marks.now c.in_ok-from_left.from_left) c.as_slice-list.ensures.items c.in_ok-from_left.ensures in (
      λ _. marks-left (hash_of c.args.suite) t c.args.node_index w.left w.right w.field-0-3 w.parent.now h c.requires.consistent c.args.marks.now c.requires.marks_valid c.in_ok-from_left.from_left k (c.is_linked.ensures.0 c.if-is_linked.true),
      λ _. refl,
    )

pub returns-clause-marks : goal.returns-clause-marks
returns-clause-marks c =
    let w = c.in-Some-Parent-Some-default-default-default in
    let t = c.args.tree.now.tree in
    let h = subst (λ o. HasChildren t c.args.node_index w.left w.right w.field-0-3 (option_copied o)) w.field-0-0-is (rw w.field-0-is at w.ensures) in
    let k = subst (λ xs. IsChainPredecessorIn t xs w.left c.args.marks.now c.in_ok-from_left.from_left) c.as_slice-list.ensures.items c.in_ok-from_left.ensures in
    let j = subst (λ xs. IsChainPredecessorIn t xs w.right c.args.marks.now c.in_ok-from_right.from_right) c.as_slice-list.ensures.items c.in_ok-from_right.ensures in
    let linked = c.is_linked-2.ensures in (
      λ yes. marks-right (hash_of c.args.suite) t c.args.node_index w.left w.right w.field-0-3 w.parent.now h c.requires.consistent c.args.marks.now c.requires.marks_valid c.in_ok-from_right.from_right j (linked.0 yes),
      λ r. linked.1 (other_way (λ n. false≢true (sym c.if-is_linked.false ∙ c.is_linked.ensures.1 n))
          (marks-through (hash_of c.args.suite) t c.args.node_index w.left w.right w.field-0-3 w.parent.now h c.requires.consistent c.args.marks.now c.requires.marked c.in_ok-from_left.from_left k c.in_ok-from_right.from_right j r)),
    )
