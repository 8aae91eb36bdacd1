use Rattle.std.proofs.Common.{◌∙◌, ap, sym}
use Rattle.std.specs.Prelude.{is_some, not}
use Rattle.mls_tree.proofs.Walking.{is_some-copied}
use Rattle.mls_apply.specs.Senders.{member_index}
use Rattle.mls_apply.specs.declared.list_item.ListItem.{ListItem}
use Rattle.mls_apply.proofs.Concerned.{met, unmet}
use Rattle.mls_apply.proofs.Leaves.{shown_set}
use Rattle.mls_apply.proofs.LastUpdates.{applied-other, applied-no_member, applied-blank, applied-superseded, applied-last}
use Rattle.mls_apply.proofs.updates.apply_update.Goals as goal

pub replace_leaf-requires : goal.replace_leaf-requires
replace_leaf-requires c = shown_set c.args.tree.now.tree c.in-Some.sender c.leaf.result c.is_none.result c.leaf.ensures c.is_none.ensures c.if-is_none.false

pub returns-in_default-clause-applied : goal.returns-in_default-clause-applied
returns-in_default-clause-applied c = λ rest t known.
    applied-other c.args.item.now rest t c.args.replaced.now c.args.tree.now.tree known
    (λ y e. c.in_default.not-Update y (ap (λ (x : ListItem). x.proposal) c.item.view_is ∙ e))

pub returns-in_default-member_index-clause-no_such_leaf : goal.returns-in_default-member_index-clause-no_such_leaf
returns-in_default-member_index-clause-no_such_leaf c = λ fault rest t known.
    applied-no_member c.args.item.now rest t c.args.replaced.now c.args.tree.now.tree known c.in-Update.leaf (ap (λ (x : ListItem). x.proposal) (sym c.item.view_is) ∙ c.in-Update.is)
    (ap (λ (x : ListItem). member_index x.sender) (sym c.item.view_is) ∙ sym c.in_default-member_index.ensures)

pub returns-then-is_none-clause-no_such_leaf : goal.returns-then-is_none-clause-no_such_leaf
returns-then-is_none-clause-no_such_leaf c = λ fault rest t known.
    applied-blank c.args.item.now rest t c.args.replaced.now c.args.tree.now.tree known c.in-Update.leaf (ap (λ (x : ListItem). x.proposal) (sym c.item.view_is) ∙ c.in-Update.is)
    c.in-Some.sender (ap (λ (x : ListItem). member_index x.sender) (sym c.item.view_is) ∙ sym c.in-Some.ensures)
    (sym (ap is_some c.leaf.ensures) ∙ is_some-copied c.leaf.result ∙ c.is_none.ensures ∙ ap not c.if-is_none.true)

pub returns-in_ok-replace_leaf-clause-applied : goal.returns-in_ok-replace_leaf-clause-applied
returns-in_ok-replace_leaf-clause-applied c = λ rest t known.
    let u = c.args.tree.now.tree in
    let i = c.in-Some.sender in
    applied-last c.args.item.now rest t c.args.replaced.now u known c.in-Update.leaf (ap (λ (x : ListItem). x.proposal) (sym c.item.view_is) ∙ c.in-Update.is)
    i (ap (λ (x : ListItem). member_index x.sender) (sym c.item.view_is) ∙ sym c.in-Some.ensures)
    (shown_set u i c.leaf.result c.is_none.result c.leaf.ensures c.is_none.ensures c.if-is_none.false)
    c.insert.new.self c.in_ok-insert.ensures.updates.0 (unmet _ _ c.in_ok-insert.ensures.added c.if-branch.true)
    c.replace_leaf.new.tree.tree c.in_ok-replace_leaf.ensures.updated

pub returns-else-branch-clause-applied : goal.returns-else-branch-clause-applied
returns-else-branch-clause-applied c = λ rest t known.
    let u = c.args.tree.now.tree in
    let i = c.in-Some.sender in
    applied-superseded c.args.item.now rest t c.args.replaced.now u known c.in-Update.leaf (ap (λ (x : ListItem). x.proposal) (sym c.item.view_is) ∙ c.in-Update.is)
    i (ap (λ (x : ListItem). member_index x.sender) (sym c.item.view_is) ∙ sym c.in-Some.ensures)
    (shown_set u i c.leaf.result c.is_none.result c.leaf.ensures c.is_none.ensures c.if-is_none.false)
    c.insert.new.self c.in_ok-insert.ensures.updates.0 (met _ _ c.in_ok-insert.ensures.added c.if-branch.false)
