use Rattle.std.proofs.Common.{arith, rules, length, ◌≤◌, ap, sym, ◌∙◌}
use Rattle.mls_nodes.proofs.Limits.{numbers_fit}
use Rattle.mls_nodes.proofs.SortedLists.{OnTrue-is_sorted}
use Rattle.mls_nodes.proofs.unmerged.Unmerged.new.Goals as goal

pub returns-in_err-new : goal.returns-in_err-new
returns-in_err-new c =
    let few : length c.args.leaves.items ≤ 1048576 = omega arith in
    absurd (c.in_err-new.ensures.1 (search (rules, numbers_fit)))

pub invariant_of-result : goal.invariant_of-result
invariant_of-result c = (
  omega (arith, ap length c.in_ok-new.ensures),
  OnTrue-is_sorted c.as_slice.result.now c.in_ok-new.field-0 _ (c.in_ok-new.ensures ∙ sym c.as_slice.ensures.value) c.is_sorted-is_sorted.ensures.cases,
)
