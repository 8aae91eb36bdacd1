use Rattle.std.proofs.Common.{Option, subst, refl, inl, inr}
use Rattle.serde_json.specs.View.{view}
use Rattle.mls_msgs.specs.declared.authenticated.AuthenticatedParts.{AuthenticatedParts}
use Rattle.mls_vectors.specs.CheckModel.{FindsCommit}
use Rattle.mls_vectors.proofs.transcript.suite_outcome.Goals as goal

pub returns-in-None : goal.returns-in-None
returns-in-None c =
    let none = subst (λ (o : Option AuthenticatedParts). FindsCommit (view c.args.vector.now) o) c.in-None.is c.in_ok-auth.ensures in
    inl (inr ((c.args.suite, c.requires), inl (refl, λ h. none h.0 h.1)))
