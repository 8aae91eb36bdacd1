use Rattle.std.proofs.Common.{◌∙◌, subst, sym}
use Rattle.mls_signatures.specs.AddedLeaves.{IsPackageIfNamed}
use Rattle.mls_signatures.proofs.FreshLeaves.{others-all, others-more, others-skip, others-start}
use Rattle.mls_signatures.proofs.fresh_leaf_signatures.other_indices.Goals.{then-is_other+in_ok-insert, else-is_other}
use Rattle.mls_signatures.proofs.fresh_leaf_signatures.other_indices.Goals as goal

pub loop-leaf-init : goal.loop-leaf-init
loop-leaf-init c = others-start c.args.leaves.now c.new-others.result c.new-others.ensures.empty

pub is_other-requires : goal.is_other-requires
is_other-requires c = subst IsPackageIfNamed (sym c.leaf-item.is) (c.requires c.loop-leaf.leaf-index c.leaf-item.result c.loop-leaf-test.true)

pub loop-leaf-preserved : goal.loop-leaf-preserved
loop-leaf-preserved c =
    let xs = c.args.leaves.now in
    let i = c.loop-leaf.leaf-index in
    let x = c.leaf-item.result in
    elim c.if-is_other.branch [
      | then-is_other+in_ok-insert w ↦
          rw w.others-is
          (others-more xs i x c.loop-leaf-test.true c.leaf-item.is c.loop-leaf.others w.insert.new.self c.loop-leaf.invariant
          (sym c.is_other.ensures ∙ w.if-is_other.true) w.in_ok-insert.ensures.updates.0)
      | else-is_other w ↦
          rw w.others-is
          (others-skip xs i x c.loop-leaf-test.true c.leaf-item.is c.loop-leaf.others c.loop-leaf.invariant (sym c.is_other.ensures ∙ w.if-is_other.false))
    ]

pub returns : goal.returns
returns c = others-all c.args.leaves.now c.loop-leaf.leaf-index c.loop-leaf.others c.loop-leaf.invariant c.loop-leaf-test.false
