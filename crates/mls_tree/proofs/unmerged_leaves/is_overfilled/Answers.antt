use Rattle.std.proofs.Common.{ap, ◌∙◌, ◌<◌, length, sym, arith}
use Rattle.std.specs.Prelude.{option_copied}
use Rattle.std.proofs.lemmas.Bool.{ne_eqb}
use Rattle.mls_tree.specs.TreeOperations.{is_overfilled}
use Rattle.mls_tree.proofs.Lists.{is_overfilled-full, is_overfilled-short}
use Rattle.mls_tree.proofs.unmerged_leaves.is_overfilled.Goals as goal

pub returns-then-list-eq-MAX_UNMERGED : goal.returns-then-list-eq-MAX_UNMERGED
returns-then-list-eq-MAX_UNMERGED c =
    is_overfilled-full c.args.leaf c.in-Some.parent.now c.as_slice-list.result.now c.contains.result c.as_slice-list.ensures.items c.if-list-eq-MAX_UNMERGED.true c.contains.ensures.value
    ∙ ap (λ o. is_overfilled c.args.leaf (option_copied o)) (sym c.in-Some.is)

pub returns-else-list-eq-MAX_UNMERGED : goal.returns-else-list-eq-MAX_UNMERGED
returns-else-list-eq-MAX_UNMERGED c =
    let other = c.if-list-eq-MAX_UNMERGED.false in
    let short : length c.as_slice-list.result.now < 1048576 = omega (arith, c.as_slice-list.ensures.limit, ap length c.as_slice-list.ensures.items) in
    ne_eqb _ _ other
    ∙ sym (is_overfilled-short c.args.leaf c.in-Some.parent.now c.as_slice-list.result.now c.as_slice-list.ensures.items short)
    ∙ ap (λ o. is_overfilled c.args.leaf (option_copied o)) (sym c.in-Some.is)
