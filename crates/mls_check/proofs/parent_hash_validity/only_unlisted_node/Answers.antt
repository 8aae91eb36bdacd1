use Rattle.std.proofs.Common.{◌+◌, ℕ, List, get_or, arith, ◌∙◌, sym, subst}
use Rattle.mls_check.proofs.Lone.{lone-listed, lone-again, lone-first, lone-two, lone-end, same_option, other_option, lone-none, not_from}
use Rattle.mls_check.proofs.Walks.{IsLeft, LeavesOf, leaf-left, leaf-listed, leaf-unlisted, parent-left, parent-unlisted}
use Rattle.mls_check.proofs.parent_hash_validity.only_unlisted_node.Goals.{then-node_index-eq0+else-starts_with, else-node_index-eq0}
use Rattle.mls_check.proofs.parent_hash_validity.only_unlisted_node.Goals as goal

pub loop-node_index-preserved-then-starts_with : goal.loop-node_index-preserved-then-starts_with
loop-node_index-preserved-then-starts_with c =
    let node_indices : List ℕ = c.args.node_indices.now in
    let list : List ℕ = c.args.list.now in
    let i = c.loop-node_index.node_index-index in
    let e = c.split_leaves.ensures in (
      lone-listed list node_indices i c.loop-node_index-test.true c.loop-node_index.lone c.loop-node_index.invariant.0
          (leaf-listed node_indices list c.loop-node_index.rest.now c.split_leaves.result.0.now c.split_leaves.result.1.now i c.loop-node_index-test.true c.if-node_index-eq0.true c.loop-node_index.invariant.1 e.whole e.front e.rest
          (c.starts_with.ensures.0 c.if-starts_with.true)),
      leaf-left node_indices list c.loop-node_index.rest.now c.split_leaves.result.0.now c.split_leaves.result.1.now i c.loop-node_index-test.true c.if-node_index-eq0.true c.loop-node_index.invariant.1 e.whole e.front e.rest
          c.requires.node_indices,
    )

pub loop-node_index-preserved-then-eq : goal.loop-node_index-preserved-then-eq
loop-node_index-preserved-then-eq c = (
  lone-again c.args.list.now c.args.node_indices.now c.loop-node_index.node_index-index c.loop-node_index-test.true c.loop-node_index.lone c.loop-node_index.invariant.0 (same_option _ _ (sym c.eq.ensures ∙ c.if-eq.true)),
  elim c.if-node_index-eq0.branch [
    | then-node_index-eq0+else-starts_with w ↦
        (let e = w.split_leaves.ensures in
        subst (λ r. IsLeft (LeavesOf c.args.node_indices.now (c.loop-node_index.node_index-index + 1)) c.args.list.now r.now) (sym w.rest-is)
        (leaf-left c.args.node_indices.now c.args.list.now c.loop-node_index.rest.now w.split_leaves.result.0.now w.split_leaves.result.1.now c.loop-node_index.node_index-index c.loop-node_index-test.true w.if-node_index-eq0.true
        c.loop-node_index.invariant.1 e.whole e.front e.rest c.requires.node_indices))
    | else-node_index-eq0 w ↦
        subst (λ r. IsLeft (LeavesOf c.args.node_indices.now (c.loop-node_index.node_index-index + 1)) c.args.list.now r.now) (sym w.rest-is)
        (parent-left c.args.node_indices.now c.args.list.now c.loop-node_index.rest.now c.loop-node_index.node_index-index c.loop-node_index.invariant.1)
  ],
)

pub returns-then-is_some : goal.returns-then-is_some
returns-then-is_some c =
    lone-two c.args.list.now c.args.node_indices.now c.loop-node_index.node_index-index c.loop-node_index-test.true c.loop-node_index.lone (sym c.is_some.ensures ∙ c.if-is_some.true) c.loop-node_index.invariant.0
    (elim c.if-node_index-eq0.branch [
      | then-node_index-eq0+else-starts_with w ↦
          (let e = w.split_leaves.ensures in
          leaf-unlisted c.args.node_indices.now c.args.list.now c.loop-node_index.rest.now w.split_leaves.result.0.now w.split_leaves.result.1.now c.loop-node_index.node_index-index c.loop-node_index-test.true w.if-node_index-eq0.true
          c.loop-node_index.invariant.1 e.whole e.front e.rest c.requires.list (not_from _ w.starts_with.ensures.1 w.if-starts_with.false))
      | else-node_index-eq0 w ↦ parent-unlisted c.args.list.now (get_or c.args.node_indices.now c.loop-node_index.node_index-index 0) w.if-node_index-eq0.false
    ])
    (other_option _ _ (sym c.eq.ensures ∙ c.if-eq.false))

pub loop-node_index-preserved : goal.loop-node_index-preserved
loop-node_index-preserved c = (
  lone-first c.args.list.now c.args.node_indices.now c.loop-node_index.node_index-index c.loop-node_index-test.true (lone-none _ _ c.loop-node_index.lone (sym c.is_some.ensures ∙ c.if-is_some.false) c.loop-node_index.invariant.0)
      (elim c.if-node_index-eq0.branch [
        | then-node_index-eq0+else-starts_with w ↦
            (let e = w.split_leaves.ensures in
            leaf-unlisted c.args.node_indices.now c.args.list.now c.loop-node_index.rest.now w.split_leaves.result.0.now w.split_leaves.result.1.now c.loop-node_index.node_index-index c.loop-node_index-test.true w.if-node_index-eq0.true
            c.loop-node_index.invariant.1 e.whole e.front e.rest c.requires.list (not_from _ w.starts_with.ensures.1 w.if-starts_with.false))
        | else-node_index-eq0 w ↦ parent-unlisted c.args.list.now (get_or c.args.node_indices.now c.loop-node_index.node_index-index 0) w.if-node_index-eq0.false
      ]),
  elim c.if-node_index-eq0.branch [
    | then-node_index-eq0+else-starts_with w ↦
        (let e = w.split_leaves.ensures in
        subst (λ r. IsLeft (LeavesOf c.args.node_indices.now (c.loop-node_index.node_index-index + 1)) c.args.list.now r.now) (sym w.rest-is)
        (leaf-left c.args.node_indices.now c.args.list.now c.loop-node_index.rest.now w.split_leaves.result.0.now w.split_leaves.result.1.now c.loop-node_index.node_index-index c.loop-node_index-test.true w.if-node_index-eq0.true
        c.loop-node_index.invariant.1 e.whole e.front e.rest c.requires.node_indices))
    | else-node_index-eq0 w ↦
        subst (λ r. IsLeft (LeavesOf c.args.node_indices.now (c.loop-node_index.node_index-index + 1)) c.args.list.now r.now) (sym w.rest-is)
        (parent-left c.args.node_indices.now c.args.list.now c.loop-node_index.rest.now c.loop-node_index.node_index-index c.loop-node_index.invariant.1)
  ],
)

pub returns : goal.returns
returns c = lone-end c.args.list.now c.args.node_indices.now c.loop-node_index.node_index-index c.loop-node_index.lone (omega arith) c.loop-node_index.invariant.0
