use Rattle.std.proofs.Common.{◌≡◌, ◌+◌, ◌∷◌, ◌∙◌, List, drop, is_some, sym, ap, subst}
use Rattle.std.proofs.lemmas.List.{drop_more}
use Rattle.mls_apply.specs.declared.list_item.KnownProposal.{KnownProposal}
use Rattle.mls_follow.specs.AddedRules.{FailsKnownAt}
use Rattle.mls_follow.proofs.AddingRules.{GoesOn, goes_on-here, goes_on-next, none_met, some_unmet}
use Rattle.mls_follow.proofs.added_rules.first_unmet_known.Goals as goal

pub returns-then-is_some : goal.returns-then-is_some
returns-then-is_some c =
    let known : List KnownProposal = c.args.known.now in
    let i = c.loop-pending.pending-index in
    let invariant = c.loop-pending.invariant in
    let cut : drop i known ≡ c.pending-item.result ∷ drop (i + 1) known = drop_more known i c.pending-item.result c.loop-pending-test.true ∙ ap (λ k. k ∷ drop (i + 1) known) (sym c.pending-item.is) in
    subst (FailsKnownAt c.args.asked c.args.context.now known) (sym invariant.0)
    (goes_on-here c.args.asked c.args.context.now known c.pending-item.result (drop (i + 1) known) i
    (subst (λ rest. GoesOn c.args.asked c.args.context.now known rest i) cut invariant.1)
    (some_unmet _ (ap (λ o. is_some o) (sym c.proposal_refusal.ensures) ∙ sym c.is_some.ensures ∙ c.if-is_some.true)))

pub loop-pending-preserved : goal.loop-pending-preserved
loop-pending-preserved c =
    let known : List KnownProposal = c.args.known.now in
    let i = c.loop-pending.pending-index in
    let invariant = c.loop-pending.invariant in
    let cut : drop i known ≡ c.pending-item.result ∷ drop (i + 1) known = drop_more known i c.pending-item.result c.loop-pending-test.true ∙ ap (λ k. k ∷ drop (i + 1) known) (sym c.pending-item.is) in (
      ap (λ n. n + 1) invariant.0,
      goes_on-next c.args.asked c.args.context.now known c.pending-item.result (drop (i + 1) known) i
          (subst (λ rest. GoesOn c.args.asked c.args.context.now known rest i) cut invariant.1)
          (none_met _ (ap (λ o. is_some o) (sym c.proposal_refusal.ensures) ∙ sym c.is_some.ensures ∙ c.if-is_some.false)),
    )
