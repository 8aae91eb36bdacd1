use Rattle.std.proofs.Common.{◌∙◌, sym}
use Rattle.mls_examine.proofs.Looking.{accepted_alone, rejected_alone}
use Rattle.mls_examine.proofs.unaccepted_signatures.push_unaccepted.Goals as goal

pub returns-then-is_accepted : goal.returns-then-is_accepted
returns-then-is_accepted g c =
    accepted_alone (g.C.SignatureCheck.meaning c.args.checker.now) c.args.signatures.now.items c.args.signature (sym c.is_accepted.ensures ∙ c.if-is_accepted.true)

pub returns : goal.returns
returns g c =
    c.in_ok-push.ensures.items
    ∙ rejected_alone (g.C.SignatureCheck.meaning c.args.checker.now) c.args.signatures.now.items c.args.signature (sym c.is_accepted.ensures ∙ c.if-is_accepted.false)
