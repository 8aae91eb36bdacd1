use Rattle.std.proofs.Common.{◌∙◌, sym}
use Rattle.mls_signatures.proofs.AddedLeaves.{in_map}
use Rattle.mls_signatures.proofs.new_leaf_signatures.leaf_after.Goals as goal

pub returns-in-Some : goal.returns-in-Some
returns-in-Some c = λ t m.
    in_map t c.args.after.now.tree.now.tree c.args.after.now.added.now c.args.index c.in-Some.leaf.now m c.in-Some.ensures.value

pub returns-in-None : goal.returns-in-None
returns-in-None c = λ t m. c.leaf.ensures ∙ m.others c.args.index (sym c.in-None.ensures.value)
