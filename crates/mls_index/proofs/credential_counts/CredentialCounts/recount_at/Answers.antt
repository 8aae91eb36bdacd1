use Rattle.std.proofs.Common.{◌≡◌, ◌<◌, ◌≤◌, ◌*◌, ◌/◌, ◌∙◌, ◌∷◌, ◌++◌, [], length, ap, arith}
use Rattle.mls_index.specs.LeafCredentials.{classes_before}
use Rattle.mls_index.proofs.Classes.{same_classes, replaced-back, class-beyond}
use Rattle.mls_index.proofs.Counting.{but-same, but-replaced}
use Rattle.mls_index.proofs.credential_counts.CredentialCounts.recount_at.Goals as goal
use Rattle.mls_index.proofs.credential_counts.CredentialCounts.recount_at.Goals.{then-node_index-eq1-via-then-node_index-eq1, then-node_index-eq1-via-else-node_index-eq1+then-index-len}

pub returns-then-node_index-eq1-clause-counts : goal.returns-then-node_index-eq1-clause-counts
returns-then-node_index-eq1-clause-counts c = λ rest capacity h.
    let t = c.args.tree.now.tree in
    let xs = c.args.self.now.classes.list.items in
    elim c.then-node_index-eq1.branch [
      | then-node_index-eq1-via-then-node_index-eq1 w ↦ but-same t c.args.self.now c.args.node_index rest (λ i e. absurd (omega (arith, w.if-node_index-eq1.true, e))) h
      | then-node_index-eq1-via-else-node_index-eq1+then-index-len w ↦
          but-same t c.args.self.now c.args.node_index rest
          (λ i e. let beyond : length xs ≤ i = omega (arith, w.len.ensures, w.if-index-len.true, e) in class-beyond xs t i capacity beyond) h
    ]

pub returns-clause-index_base : goal.returns-clause-index_base
returns-clause-index_base c = λ t h.
    let es = c.args.self.now.replaced.items in
    let fs = c.push_reserved.new.self.items in
    let xs = c.args.self.now.classes.list.items in
    let ys = c.replace-was.new.self.list.items in
    let i = c.args.node_index / 2 in
    let was = c.replace-was.result in
    same_classes t (classes_before es xs) (classes_before fs ys)
    (replaced-back es fs xs ys i was c.at.result (c.push_reserved.ensures.items ∙ ap (λ gs. gs ++ (i, was) ∷ []) c.try_reserve.ensures.items) c.replace-was.ensures.replaced
    c.replace-was.ensures.before) h

pub returns-clause-counts : goal.returns-clause-counts
returns-clause-counts c = λ rest capacity h.
    let i = c.args.node_index / 2 in
    let at : c.args.node_index ≡ 2 * i = omega (arith, c.if-node_index-eq1.false) in
    let low : i < length c.args.self.now.classes.list.items = omega (arith, c.len.ensures, c.if-index-len.false) in
    but-replaced c.args.tree.now.tree c.args.self.now _ c.args.node_index i c.at.result rest at low c.at.ensures c.replace-was.ensures.replaced h
