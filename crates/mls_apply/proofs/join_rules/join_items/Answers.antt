use Rattle.std.proofs.Common.{◌≡◌, ◌≢◌, ◌∙◌, ◌+◌, ◌++◌, ◌∷◌, [], List, Option, None, map, take, filter_map, refl, ap, sym}
use Rattle.std.specs.List.{cons_option}
use Rattle.std.proofs.lemmas.List.{append-nil, map-append, take_all}
use Rattle.mls_msgs.specs.declared.proposal.Proposal.{Proposal}
use Rattle.mls_msgs.specs.declared.proposal.ProposalOrRef.{ProposalOrRef}
use Rattle.mls_msgs.specs.declared.proposal.ProposalOrRef.TheVariants as entries
use Rattle.mls_apply.specs.declared.list_item.ListItem.{ListItem}
use Rattle.mls_apply.specs.JoinRules.{value_of, joiner_item, join_items}
use Rattle.mls_apply.proofs.PskSets.{chosen_next}
use Rattle.mls_apply.proofs.join_rules.join_items.Goals.{in-Proposal+in_ok-push, in_default}
use Rattle.mls_apply.proofs.join_rules.join_items.Goals as goal

-- an entry that is no proposal by value
none_of : (e : ProposalOrRef) → ((p : Proposal) → e ≢ entries.Proposal p) → value_of e ≡ None
none_of (entries.Proposal p) other = absurd (other p refl)
none_of (entries.Reference reference) other = refl

pub loop-entry-preserved : goal.loop-entry-preserved
loop-entry-preserved c =
    let es = c.args.entries.now in
    let i = c.loop-entry.entry-index in
    let e = c.entry-item.result in
    let before = join_items (take i es) in
    let next : join_items (take (i + 1) es) ≡ before ++ map joiner_item (cons_option (value_of e) []) =
    ap (map joiner_item) (chosen_next value_of es i e c.loop-entry-test.true c.entry-item.is)
    ∙ map-append joiner_item (filter_map value_of (take i es)) (cons_option (value_of e) []) in
    elim c.match-entry.branch [
      | in-Proposal+in_ok-push w ↦
          rw w.items-is
          (w.in_ok-push.ensures.items
          ∙ ap (λ (xs : List ListItem). xs ++ w.new.result ∷ []) c.loop-entry.invariant
          ∙ ap (λ (x : ListItem). before ++ x ∷ []) w.new.ensures
          ∙ sym (next ∙ ap (λ (o : Option Proposal). before ++ map joiner_item (cons_option o [])) (ap value_of w.in-Proposal.is)))
      | in_default w ↦
          rw w.items-is
          (c.loop-entry.invariant
          ∙ sym (next ∙ ap (λ (o : Option Proposal). before ++ map joiner_item (cons_option o [])) (none_of e w.in_default.not-Proposal) ∙ append-nil before))
    ]

pub returns : goal.returns
returns c = c.loop-entry.invariant ∙ ap join_items (take_all c.loop-entry.entry-index c.args.entries.now c.loop-entry-test.false)
