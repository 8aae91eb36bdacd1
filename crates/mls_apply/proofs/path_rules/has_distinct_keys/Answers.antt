use Rattle.std.proofs.Common.{◌∙◌, ap, sym, inl, inr, arith}
use Rattle.std.proofs.lemmas.Bool.{cases_Bool}
use Rattle.mls_msgs.specs.declared.commit.PathNode.{PathNode}
use Rattle.mls_check.proofs.Repeats.{met, unmet}
use Rattle.mls_apply.proofs.PathKeys.{held-start, held-before, held-all, twice-before, twice-all}
use Rattle.mls_apply.proofs.path_rules.has_distinct_keys.Goals as goal

pub loop-index-init : goal.loop-index-init
loop-index-init c = held-start c.as_slice-nodes.result.now c.new-keys.result c.new-keys.ensures.empty

pub loop-index-preserved : goal.loop-index-preserved
loop-index-preserved c =
    held-before c.as_slice-nodes.result.now c.loop-index.index c.index-nodes-index.result c.as_slice.result c.loop-index.keys c.loop-index.invariant
    (omega (arith, c.loop-index-test.true)) (omega (arith, c.loop-index.auto.index)) c.index-nodes-index.is (c.as_slice.ensures.bytes ∙ ap (λ (n : PathNode). n.encryption_key) (sym c.index-nodes-index.is))
    c.insert.new.self (unmet _ _ c.in_ok-insert.ensures.added c.if-not-branch.false) c.in_ok-insert.ensures.updates.0

pub returns-then-not-branch : goal.returns-then-not-branch
returns-then-not-branch c =
    sym (twice-before c.as_slice-nodes.result.now c.loop-index.index c.index-nodes-index.result c.as_slice.result c.loop-index.keys c.loop-index.invariant
    (omega (arith, c.loop-index-test.true)) (omega (arith, c.loop-index.auto.index)) c.index-nodes-index.is (c.as_slice.ensures.bytes ∙ ap (λ (n : PathNode). n.encryption_key) (sym c.index-nodes-index.is))
    c.args.path.now c.as_slice-nodes.ensures (met _ _ c.in_ok-insert.ensures.added c.if-not-branch.true))

pub returns : goal.returns
returns c =
    elim (cases_Bool c.in_ok-insert-2.field-0) [
      | inl new ↦
          new
          ∙ sym (held-all c.args.path.now c.as_slice-nodes.result.now c.loop-index.index c.encryption_key.result c.loop-index.keys c.loop-index.invariant c.as_slice-nodes.ensures
          (omega (arith, c.loop-index-test.false)) (rw c.deref.ensures at c.encryption_key.ensures) c.insert-2.new.self (unmet _ _ c.in_ok-insert-2.ensures.added new) c.in_ok-insert-2.ensures.updates.0).distinct
      | inr again ↦
          again
          ∙ sym (twice-all c.args.path.now c.as_slice-nodes.result.now c.loop-index.index c.encryption_key.result c.loop-index.keys c.loop-index.invariant c.as_slice-nodes.ensures
          (omega (arith, c.loop-index-test.false)) (rw c.deref.ensures at c.encryption_key.ensures) (met _ _ c.in_ok-insert-2.ensures.added again))
    ]
