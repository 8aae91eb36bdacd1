use Rattle.std.proofs.Common.{Some, option_map, ◌∙◌, sym, ap}
use Rattle.mls_apply.specs.ResolvedList.{item_of}
use Rattle.mls_apply.proofs.Pending.{first_found, none_found, prints_length, print_at}
use Rattle.mls_apply.proofs.pending_proposals.PendingProposals.find_item.Goals as goal

pub index-known-requires : goal.index-known-requires
index-known-requires c =
    let at = sym (c.self.invariant.0 c.args.reference.now) ∙ sym c.in-Some.ensures.value in
    rw c.self.inside.proposals.ok.0 (first_found c.self.inside.proposals.items c.args.reference.now c.in-Some.position.now at).0

pub index-fingerprint-requires : goal.index-fingerprint-requires
index-fingerprint-requires c =
    let ks = c.self.inside.proposals.items in
    let at = sym (c.self.invariant.0 c.args.reference.now) ∙ sym c.in-Some.ensures.value in
    rw (c.self.inside.fingerprints.ok.0 ∙ prints_length ks c.self.inside.fingerprints.items c.self.invariant.1)
    (first_found ks c.args.reference.now c.in-Some.position.now at).0

pub of_known-requires : goal.of_known-requires
of_known-requires c =
    let ks = c.self.inside.proposals.items in
    let at = sym (c.self.invariant.0 c.args.reference.now) ∙ sym c.in-Some.ensures.value in
    print_at ks c.self.inside.fingerprints.items c.in-Some.position.now c.index-known.result.now c.index-fingerprint.result.now c.self.invariant.1
    (first_found ks c.args.reference.now c.in-Some.position.now at).0 c.index-known.ensures c.index-fingerprint.ensures

pub returns-in-Some : goal.returns-in-Some
returns-in-Some c =
    let at = sym (c.self.invariant.0 c.args.reference.now) ∙ sym c.in-Some.ensures.value in
    let first = first_found c.self.inside.proposals.items c.args.reference.now c.in-Some.position.now at in
    rw (← c.self.view_is) (ap Some (c.of_known.ensures ∙ ap item_of c.index-known.ensures) ∙ sym (ap (option_map item_of) (first.1 c.index-known.result.now)))

pub returns-in-None : goal.returns-in-None
returns-in-None c =
    let at = sym (c.self.invariant.0 c.args.reference.now) ∙ sym c.in-None.ensures.value in
    rw (← c.self.view_is) (sym (ap (option_map item_of) (none_found c.self.inside.proposals.items c.args.reference.now at)))
