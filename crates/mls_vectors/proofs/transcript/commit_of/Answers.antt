use Rattle.std.proofs.Common.{◌≡◌, ◌∙◌, true, true≢false, sym, subst}
use Rattle.mls_msgs.specs.Layout.{is_commit}
use Rattle.mls_msgs.specs.declared.authenticated.AuthenticatedParts.{AuthenticatedParts}
use Rattle.mls_vectors.proofs.Commits.{authenticated_one}
use Rattle.mls_vectors.proofs.transcript.commit_of.Goals as goal

pub returns-else-is_some : goal.returns-else-is_some
returns-else-is_some c = λ a encoded commits.
    let same = authenticated_one a c.in-Ok.auth c.args.bytes.now encoded c.in-Ok.ensures.decoded in
    let tag = c.confirmation_tag.ensures.commit.1 (subst (λ (x : AuthenticatedParts). is_commit x.content.content ≡ true) same commits) in
    true≢false (sym tag ∙ sym c.is_some.ensures ∙ c.if-is_some.false)
