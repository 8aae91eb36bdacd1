use Rattle.std.proofs.Common.{◌≡◌, ◌∙◌, ◌-◌, sym, subst, length, vec_len}
use Rattle.std.proofs.lemmas.List.{take_at}
use Rattle.mls_hash.specs.SuiteHash.{hash_of}
use Rattle.mls_tree.specs.PublicTreeModel.{plain}
use Rattle.mls_tree.specs.RatchetTree.{RatchetTree}
use Rattle.mls_tree.proofs.Coordinates.{root-seen}
use Rattle.mls_check.specs.ParentHashMarks.{MarksAreValid, AreAllMarkedAt}
use Rattle.mls_check.proofs.Marking.{marks-marked}
use Rattle.mls_check.proofs.parent_hash_validity.first_parent_hash_invalid.Goals as goal

pub returns : goal.returns
returns c =
    let tree : RatchetTree = plain c.args.tree.now in
    let long : length c.mark_reached.new.marks ≡ vec_len c.in_ok-marks.marks = c.mark_reached.auto.marks ∙ c.as_mut_slice.ensures.len in
    let same : c.mark_reached.new.marks ≡ c.as_slice.result.now = sym (c.as_slice.ensures.value ∙ take_at c.mark_reached.new.marks _ _ long) in
    let sound = subst (λ ms. MarksAreValid (hash_of c.args.suite) tree.tree ms) same c.in_ok-mark_reached.ensures.marks_valid in
    let marked = subst (λ ms. AreAllMarkedAt (hash_of c.args.suite) tree.tree ms (c.leaf_count-root.result - 1)) same c.in_ok-mark_reached.ensures.marked in
    marks-marked (hash_of c.args.suite) tree.tree c.as_slice.result.now sound
    (subst (λ p. AreAllMarkedAt (hash_of c.args.suite) tree.tree c.as_slice.result.now p) (root-seen tree c.leaf_count-root.result (sym c.leaf_count-root.ensures)) marked)
    c.first_unmarked.result c.first_unmarked.ensures
