use Rattle.std.proofs.Common.{◌∙◌, sym}
use Rattle.mls_apply.proofs.Pending.{found_at, none_found}
use Rattle.mls_apply.proofs.pending_proposals.PendingProposals.find.Goals as goal

pub returns-in-Some : goal.returns-in-Some
returns-in-Some c =
    let at = sym (c.self.invariant.0 c.args.reference.now) ∙ sym c.in-Some.ensures.value in
    rw (← c.self.view_is, ← c.deref.ensures.value) (found_at c.deref.result.now c.args.reference.now c.in-Some.position.now (rw c.deref.ensures.value at) c.get-in-Some.result c.get-in-Some.ensures.lookup.3)

pub returns-in-None : goal.returns-in-None
returns-in-None c =
    let at = sym (c.self.invariant.0 c.args.reference.now) ∙ sym c.in-None.ensures.value in
    rw (← c.self.view_is) (sym (none_found c.self.inside.proposals.items c.args.reference.now at))
