use Rattle.std.proofs.Common.{rules}
use Rattle.mls_follow.proofs.References.{referenced_pushed, sent_reference}
use Rattle.mls_follow.proofs.group.Group.store_proposal.Goals as goal

pub invariant_of-self-clause-referenced : goal.invariant_of-self-clause-referenced
invariant_of-self-clause-referenced c =
    let context = c.args.self.now.context in
    let sent = c.args.sent.now in
    referenced_pushed context c.push.result _ _ c.in_ok-known.known c.push.ensures.pushed c.push.ensures.unchanged_on_error c.args.self.now.referenced
    (sent_reference context sent.auth.now sent.sender sent.proposal.now c.args.reference _ c.requires.framed (search rules) c.requires.referenced c.in_ok-known.ensures)
