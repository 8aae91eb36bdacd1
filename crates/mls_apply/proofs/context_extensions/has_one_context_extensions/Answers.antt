use Rattle.std.proofs.Common.{◌∙◌, ◌+◌, ◌∷◌, ap, sym, drop}
use Rattle.std.proofs.lemmas.List.{drop_more}
use Rattle.mls_apply.proofs.Bringing.{bring_after, bring-none, bring-first}
use Rattle.mls_apply.proofs.context_extensions.has_one_context_extensions.Goals.{then-is_context_extensions+else-is_brought, else-is_context_extensions}
use Rattle.mls_apply.proofs.context_extensions.has_one_context_extensions.Goals as goal

pub loop-item-preserved : goal.loop-item-preserved
loop-item-preserved c =
    let items = c.args.items.now in
    let x = c.item-item.result in
    let rest = drop (c.loop-item.item-index + 1) items in
    let known = c.loop-item.invariant ∙ ap (bring_after c.loop-item.is_brought) (drop_more items c.loop-item.item-index x c.loop-item-test.true ∙ ap (λ y. y ∷ rest) (sym c.item-item.is)) in
    elim c.if-is_context_extensions.branch [
      | then-is_context_extensions+else-is_brought w ↦
          known
          ∙ ap (λ b. bring_after b (x ∷ rest)) w.if-is_brought.false
          ∙ bring-first x rest (sym c.is_context_extensions.ensures ∙ w.if-is_context_extensions.true)
          ∙ ap (λ b. bring_after b rest) (sym w.is_brought-is)
      | else-is_context_extensions w ↦
          known
          ∙ bring-none c.loop-item.is_brought x rest (sym c.is_context_extensions.ensures ∙ w.if-is_context_extensions.false)
          ∙ ap (λ b. bring_after b rest) (sym w.is_brought-is)
    ]
