use Rattle.std.proofs.Common.{◌∙◌, arith, sym, refl, eqb-true}
use Rattle.mls_apply.specs.PathParents.{away_resolution}
use Rattle.mls_apply.proofs.Counting.{counts-agree}
use Rattle.mls_apply.proofs.path_rules.have_counts.Goals as goal

pub loop-index-preserved : goal.loop-index-preserved
loop-index-preserved c =
    c.loop-index.invariant
    ∙ counts-agree c.args.added.now c.in_ok-added.added c.in_ok-added.ensures (away_resolution c.args.tree.now.tree c.args.above.now.leaf) c.args.above.now.node_indices.now c.args.nodes.now c.loop-index.index
    c.index-nodes-index.result _ _ (omega arith) (omega arith) c.index-nodes-index.is refl refl
    (sym c.len-count.ensures ∙ sym (eqb-true _ _ (sym c.has_recipients.ensures ∙ c.if-not-has_recipients.false)))
