use Rattle.std.proofs.Common.{◌∙◌, ◌+◌, sym, ap, length, drop, arith}
use Rattle.mls_apply.specs.AppliedList.{new_members}
use Rattle.mls_apply.proofs.Adding.{count-more, count-same, count-all}
use Rattle.mls_apply.proofs.capacity.add_count.Goals.{then-is_add, else-is_add}
use Rattle.mls_apply.proofs.capacity.add_count.Goals as goal

pub loop-item-preserved : goal.loop-item-preserved
loop-item-preserved c =
    let items = c.args.items.now in
    let i = c.loop-item.item-index in
    elim c.if-is_add.branch [
      | then-is_add w ↦ record {
        small = omega (arith, w.count-is);
        counted =
            ap (λ n. n + length (new_members (drop (i + 1) items))) w.count-is
            ∙ count-more items i c.item-item.result c.loop-item.count c.loop-item-test.true c.item-item.is c.loop-item.invariant.counted
            (sym c.is_add.ensures ∙ w.if-is_add.true);
      }
      | else-is_add w ↦ record {
        small = omega (arith, w.count-is);
        counted =
            ap (λ n. n + length (new_members (drop (i + 1) items))) w.count-is
            ∙ count-same items i c.item-item.result c.loop-item.count c.loop-item-test.true c.item-item.is c.loop-item.invariant.counted
            (sym c.is_add.ensures ∙ w.if-is_add.false);
      }
    ]

pub returns : goal.returns
returns c = count-all c.args.items.now c.loop-item.item-index c.loop-item.count c.loop-item-test.false c.loop-item.invariant.counted
