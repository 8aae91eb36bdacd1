use Rattle.std.proofs.Common.{Option, subst, refl, inl, inr, codes}
use Rattle.serde_json.specs.View.{view}
use Rattle.std.specs.Prelude.{option_map}
use Rattle.mls_tree.specs.PublicTreeModel.{KeptTree, plain}
use Rattle.mls_vectors.specs.CheckModel.{FindsTree}
use Rattle.mls_vectors.proofs.tree_operations.suite_outcome.Goals as goal

pub returns-in-None : goal.returns-in-None
returns-in-None c =
    let none = subst (λ (o : Option KeptTree). FindsTree (codes "tree_before") (view c.args.vector.now) (option_map plain o)) c.in-None.is c.in_ok-tree.ensures in
    inl (inr ((c.args.suite, c.requires), inl (refl, λ h. none h.0 h.1)))
