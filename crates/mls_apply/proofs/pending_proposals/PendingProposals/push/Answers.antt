use Rattle.std.proofs.Common.{◌∙◌, ◌≡◌, List, ℕ, sym, ap, subst, true, false}
use Rattle.std.specs.Prelude.{is_some}
use Rattle.std.specs.Map.{lookup}
use Rattle.mls_apply.specs.PendingIndex.{position_of}
use Rattle.mls_apply.proofs.Pending.{is_key, known_again, staged_nodes, prints_more}
use Rattle.mls_apply.proofs.pending_proposals.PendingProposals.push.Goals as goal

pub invariant_of-self-then-not-is_new : goal.invariant_of-self-then-not-is_new
invariant_of-self-then-not-is_new c = (
  λ r.
      let ks = c.self.inside.proposals.items in
      let same = c.as_slice-2.ensures.value ∙ c.in-Ok.ensures.items ∙ c.as_slice.ensures.bytes in
      let known =
      subst (λ (s : List ℕ). is_some (position_of ks s) ≡ true) same
      (sym (ap is_some (c.self.invariant.0 c.as_slice-2.result.now)) ∙ sym c.contains_key-is_new.ensures ∙ c.if-not-is_new.true) in
      c.self.invariant.0 r ∙ known_again ks c.args.proposal known r ∙ ap (λ l. position_of l r) (sym c.in_ok-push_proposal.ensures.proposals),
  prints_more c.self.inside.proposals.items _ c.args.proposal c.self.inside.fingerprints.items _ c.self.invariant.1
      c.in_ok-push_proposal.ensures.proposals c.in_ok-push_proposal.ensures.fingerprints,
)

pub invariant_of-self-in-Ok-insert : goal.invariant_of-self-in-Ok-insert
invariant_of-self-in-Ok-insert c = (
  λ r.
      let ks = c.self.inside.proposals.items in
      let same = c.as_slice-2.ensures.value ∙ c.in-Ok.ensures.items ∙ c.as_slice.ensures.bytes in
      let unknown =
      subst (λ (s : List ℕ). is_some (position_of ks s) ≡ false) same
      (sym (ap is_some (c.self.invariant.0 c.as_slice-2.result.now)) ∙ sym c.contains_key-is_new.ensures ∙ c.if-not-is_new.false) in
      ap (λ es. lookup (is_key r) es) c.in-Ok-insert.ensures.entries
      ∙ staged_nodes ks c.args.proposal c.self.inside.positions.entries c.in-Ok.reference c.len-position.result
      (c.in-Ok.ensures.items ∙ c.as_slice.ensures.bytes) (c.len-position.ensures ∙ c.self.inside.proposals.ok.0) unknown c.self.invariant.0 r
      ∙ ap (λ l. position_of l r) (sym c.in_ok-push_proposal.ensures.proposals),
  prints_more c.self.inside.proposals.items _ c.args.proposal c.self.inside.fingerprints.items _ c.self.invariant.1
      c.in_ok-push_proposal.ensures.proposals c.in_ok-push_proposal.ensures.fingerprints,
)
