use Rattle.std.proofs.Common.{◌∙◌, Some, Err, sym, ap}
use Rattle.mls_follow.proofs.Committing.{not_applied, repeated_refused, unfit_refused}
use Rattle.mls_follow.proofs.commit_changes.repeated_key_refusal.Goals as goal

pub returns-in-Ok-clause-refused : goal.returns-in-Ok-clause-refused
returns-in-Ok-clause-refused c =
    λ own G s required i. repeated_refused c.args.items.now c.args.tree.now.tree c.requires G s required i c.in-Ok.ensures.fit

pub returns-in-Err-clause-refused : goal.returns-in-Err-clause-refused
returns-in-Err-clause-refused c =
    let items = c.args.items.now in
    let t = c.args.tree.now.tree in
    rw c.from.ensures (λ own G s required i.
    let none = not_applied c.in-Err.fault items t (λ e. c.in-Err.ensures.no_such_leaf (ap Err e)) (λ e. (c.in-Err.ensures.too_many_leaves (ap Err e)).1) own in
    unfit_refused items t G s required i none.0 ∙ ap Some (sym none.1))
