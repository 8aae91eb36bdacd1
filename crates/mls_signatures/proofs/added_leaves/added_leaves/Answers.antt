use Rattle.std.proofs.Common.{◌≡◌, ◌∙◌, get_or, length, ap, sym, subst, arith}
use Rattle.mls_apply.specs.declared.list_item.ListItem.{ListItem}
use Rattle.mls_msgs.specs.declared.key_package.KeyPackage.{KeyPackage}
use Rattle.mls_signatures.proofs.AddedLeaves.{Collecting, collecting-start, collecting-other, collecting-room, collecting-member, collected-indices, collected-nodes}
use Rattle.mls_signatures.proofs.added_leaves.added_leaves.Goals.{in-Add+in_ok-push, in_default}
use Rattle.mls_signatures.proofs.added_leaves.added_leaves.Goals as goal

pub loop-item-init : goal.loop-item-init
loop-item-init c =
    subst (λ leaves. Collecting c.args.entries.now c.args.items.now c.args.added.now 0 0 leaves) (sym c.in_ok-leaves.ensures.items)
    (collecting-start c.args.entries.now c.args.items.now c.args.added.now)

pub bounds-added-len : goal.bounds-added-len
bounds-added-len c =
    let room = collecting-room c.args.entries.now c.args.items.now c.args.added.now c.requires c.loop-item.item-index c.loop-item.position c.loop-item.leaves.items
    c.loop-item.invariant c.item-item.result c.loop-item-test.true c.item-item.is c.in-Add.key_package (ap (λ (y : ListItem). y.proposal) (sym c.item.view_is) ∙ c.in-Add.is) in
    omega (arith, room, c.len.ensures, c.loop-item.leaves.ok.0)

pub loop-item-preserved : goal.loop-item-preserved
loop-item-preserved c =
    let entries = c.args.entries.now in
    let items = c.args.items.now in
    let added = c.args.added.now in
    let i = c.loop-item.item-index in
    let leaves = c.loop-item.leaves.items in
    let known = c.loop-item.invariant in
    let x = c.item-item.result in
    elim c.match-item.branch [
      | in-Add+in_ok-push w ↦
          let count : w.len.result ≡ length leaves = omega (arith, w.len.ensures, c.loop-item.leaves.ok.0) in
          rw (w.leaves-is, w.in_ok-push.ensures.items)
          (collecting-member entries items added c.requires i c.loop-item.position leaves known x c.loop-item-test.true c.item-item.is w.in-Add.key_package
          (ap (λ (y : ListItem). y.proposal) (sym c.item.view_is) ∙ w.in-Add.is) _
          (ap (λ n. get_or added n 0) count) (w.deref-in-Add.ensures ∙ ap (λ (k : KeyPackage). k.leaf_node) w.deref.ensures) w.reference_at-reference.ensures)
      | in_default w ↦
          rw w.leaves-is
          (collecting-other entries items added c.requires i c.loop-item.position leaves known x c.loop-item-test.true c.item-item.is
          (λ k e. w.in_default.not-Add k (ap (λ (y : ListItem). y.proposal) c.item.view_is ∙ e)))
    ]

pub returns-clause-indices : goal.returns-clause-indices
returns-clause-indices c =
    collected-indices c.args.entries.now c.args.items.now c.args.added.now c.requires c.loop-item.item-index c.loop-item.position c.loop-item.leaves.items
    c.loop-item.invariant c.loop-item-test.false

pub returns-clause-leaf_nodes : goal.returns-clause-leaf_nodes
returns-clause-leaf_nodes c =
    collected-nodes c.args.entries.now c.args.items.now c.args.added.now c.requires c.loop-item.item-index c.loop-item.position c.loop-item.leaves.items
    c.loop-item.invariant c.loop-item-test.false

pub returns-clause-named : goal.returns-clause-named
returns-clause-named c = c.loop-item.invariant.named

pub returns-clause-by_value : goal.returns-clause-by_value
returns-clause-by_value c = c.loop-item.invariant.values
