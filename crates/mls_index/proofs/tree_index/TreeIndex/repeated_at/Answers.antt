use Rattle.std.proofs.Common.{◌∷◌, [], Some, sym, subst}
use Rattle.std.specs.Prelude.{◌/◌}
use Rattle.mls_index.specs.RepeatedKeys.{FindsRepeatedAt}
use Rattle.mls_index.proofs.Repeating.{repeated-some, repeated-none}
use Rattle.mls_index.proofs.tree_index.TreeIndex.repeated_at.Goals as goal

pub returns-in-Some : goal.returns-in-Some
returns-in-Some c = λ covers.
    let t = c.args.tree.now.tree in
    subst (λ m. FindsRepeatedAt (c.args.node_index ∷ []) t (Some (m / 2))) (sym c.min.ensures)
    (repeated-some t c.args.node_index c.in-Some.other (rw c.in-Some.is at c.first_other.ensures covers.signature))

pub returns-in-None : goal.returns-in-None
returns-in-None c = λ covers. repeated-none c.args.tree.now.tree c.args.node_index (rw c.in-None.is at c.first_other.ensures covers.signature)
