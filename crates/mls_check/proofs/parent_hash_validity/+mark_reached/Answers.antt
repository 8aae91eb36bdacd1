use Rattle.std.proofs.Common.{arith}
use Rattle.mls_tree.specs.PublicTreeModel.{plain}
use Rattle.mls_tree.specs.RatchetTree.{RatchetTree}
use Rattle.mls_hash.specs.SuiteHash.{hash_of}
use Rattle.mls_tree.proofs.Descent.{right_lower, inside_bound}
use Rattle.mls_check.proofs.Marking.{under_from_children, kept-marked, marked-more}
use Rattle.mls_check.proofs.parent_hash_validity.+mark_reached.Goals as goal

pub mark_reached-requires-2 : goal.mark_reached-requires-2
mark_reached-requires-2 t c =
    let tree : RatchetTree = plain c.args.tree.now in
    let h = rw c.in-Some-Parent.field-0-is at c.in-Some-Parent.ensures in
    (omega (arith, c.decreases, right_lower tree _ _ _ _ _ h), (c.mark_reached.ensures.known, (c.requires.sorted, (c.requires.consistent, (omega (arith, c.requires.capacity, c.mark_reached.auto.marks), c.in_ok-mark_reached.ensures.marks_valid)))))

pub is_parent_hash_valid-requires-clause-marked : goal.is_parent_hash_valid-requires-clause-marked
is_parent_hash_valid-requires-clause-marked t c =
    let h = rw c.in-Some-Parent.field-0-is at c.in-Some-Parent.ensures in
    under_from_children (hash_of c.args.suite) c.args.tree.now.tree c.mark_reached-2.new.marks c.args.node_index _ _ _ _ h
    (kept-marked (hash_of c.args.suite) c.args.tree.now.tree c.mark_reached-2.new.marks c.mark_reached.new.marks _ c.in_ok-mark_reached-2.ensures.preserved c.in_ok-mark_reached.ensures.marked)
    c.in_ok-mark_reached-2.ensures.marked

pub bounds-marks-node_index : goal.bounds-marks-node_index
bounds-marks-node_index t c =
    let h = rw c.in-Some-Parent.field-0-is at c.in-Some-Parent.ensures in
    omega (arith, c.requires.capacity, c.mark_reached.auto.marks, c.mark_reached-2.auto.marks, inside_bound c.args.tree.now.tree c.args.node_index _ h.whole)

pub returns-clause-marked : goal.returns-clause-marked
returns-clause-marked t c =
    let h = rw c.in-Some-Parent.field-0-is at c.in-Some-Parent.ensures in
    marked-more (hash_of c.args.suite) c.args.tree.now.tree c.mark_reached-2.new.marks c.args.node_index c.in_ok-marks.field-0
    (omega (arith, c.requires.capacity, c.mark_reached.auto.marks, c.mark_reached-2.auto.marks, inside_bound c.args.tree.now.tree c.args.node_index _ h.whole))
    (under_from_children (hash_of c.args.suite) c.args.tree.now.tree c.mark_reached-2.new.marks c.args.node_index _ _ _ _ h
    (kept-marked (hash_of c.args.suite) c.args.tree.now.tree c.mark_reached-2.new.marks c.mark_reached.new.marks _ c.in_ok-mark_reached-2.ensures.preserved c.in_ok-mark_reached.ensures.marked)
    c.in_ok-mark_reached-2.ensures.marked)
    c.in_ok-marks.ensures.marks.1
