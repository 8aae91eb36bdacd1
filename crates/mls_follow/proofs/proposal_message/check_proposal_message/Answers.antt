use Rattle.std.proofs.Common.{◌≡◌, ◌∙◌, true, rules}
use Rattle.std.proofs.lemmas.Result.{err_from_is_err_and}
use Rattle.mls_follow.specs.MessageRules.{is_new_proposal}
use Rattle.mls_follow.specs.GroupModel.{group_state}
use Rattle.mls_follow.proofs.Committing.{offer_word}
use Rattle.mls_follow.proofs.proposal_message.check_proposal_message.Goals as goal

pub returns-in_err-check_proposal-clause-refused : goal.returns-in_err-check_proposal-clause-refused
unfolding is_new_proposal
returns-in_err-check_proposal-clause-refused g c =
    let p = err_from_is_err_and c.from_residual-in_err-check_proposal.result c.from_residual-in_err-check_proposal.ensures.1 in
    let fresh : is_new_proposal (group_state c.args.group.now) c.args.sent.now.auth.now ≡ true = search rules in
    let refused = rw c.tree.ensures at c.in_err-check_proposal.ensures.refused in
    rw (p.1, p.2) (λ own.
    offer_word _ (group_state c.args.group.now) c.args.sent.now.auth.now c.args.sent.now.sender c.args.sent.now.proposal.now fresh c.requires.present
    ∙ refused own)
