use Rattle.std.proofs.Common.{◌∙◌, ap, sym}
use Rattle.std.specs.BTreeSet.{contains}
use Rattle.std.specs.Ordering.{nat_cmp}
use Rattle.mls_tree.specs.Subtraction.{taken_off}
use Rattle.mls_tree.proofs.TakingOff.{taken_off-none, taken_off-one, count_not_in-out, count_not_in-in}
use Rattle.mls_tree.proofs.resolution_len.take_one.Goals as goal

pub returns-then-contains : goal.returns-then-contains
returns-then-contains c =
    taken_off-none c.args.left
    ∙ ap (taken_off c.args.left) (sym (count_not_in-out c.args.without.now c.args.node_index (ap (contains nat_cmp c.args.without.now) (sym c.from.ensures) ∙ sym c.if-contains.ensures)))

pub returns : goal.returns
returns c =
    taken_off-one c.args.left c.checked_sub.result c.checked_sub.ensures
    ∙ ap (taken_off c.args.left) (sym (count_not_in-in c.args.without.now c.args.node_index (ap (contains nat_cmp c.args.without.now) (sym c.from.ensures) ∙ sym c.if-contains.ensures)))
