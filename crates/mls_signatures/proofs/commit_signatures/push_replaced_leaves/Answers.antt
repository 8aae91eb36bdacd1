use Rattle.std.proofs.Common.{◌++◌, ◌∷◌, [], refl}
use Rattle.mls_apply.specs.declared.list_item.ListItem.{ListItem}
use Rattle.mls_signatures.specs.SignaturesToVerify.{replaced_leaves}
use Rattle.mls_signatures.proofs.LeafLists.{walked-next, walked-all, replaced-step}
use Rattle.mls_signatures.proofs.commit_signatures.push_replaced_leaves.Goals as goal

pub loop-item-preserved : goal.loop-item-preserved
loop-item-preserved c =
    walked-next replaced_leaves (λ (x : ListItem). replaced_leaves (x ∷ [])) replaced-step refl c.args.items.now
    (c.args.leaves.now.items ++ replaced_leaves c.args.items.now)
    c.loop-item.item-index c.loop-item.leaves.items c.loop-item.invariant c.item-item.result c.item-item.result c.loop-item-test.true c.item-item.is
    c.push_replaced_leaf.new.leaves.items c.in_ok-push_replaced_leaf.ensures

pub returns : goal.returns
returns c =
    walked-all replaced_leaves (λ (x : ListItem). replaced_leaves (x ∷ [])) replaced-step refl c.args.items.now
    (c.args.leaves.now.items ++ replaced_leaves c.args.items.now)
    c.loop-item.item-index c.loop-item.leaves.items c.loop-item.invariant c.loop-item-test.false
