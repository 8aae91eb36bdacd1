use Rattle.std.proofs.Common.{Option, subst, refl, inl, inr}
use Rattle.serde_json.specs.View.{view}
use Rattle.mls_tree.specs.PublicTreeModel.{plain}
use Rattle.mls_msgs.specs.declared.proposal.Proposal.{Proposal}
use Rattle.mls_vectors.specs.CheckModel.{FindsProposal}
use Rattle.mls_vectors.proofs.tree_operations.tree_outcome.Goals as goal

pub returns-in-None : goal.returns-in-None
returns-in-None c =
    let none = subst (λ (o : Option Proposal). FindsProposal (view c.args.vector.now) o) c.in-None.is c.in_ok-proposal.ensures in
    inl (inr ((c.args.suite, c.requires.suite), inr ((plain c.args.tree.now, c.requires.tree), inl (refl, λ h. none h.0 h.1))))
