use Rattle.std.proofs.Common.{◌≡◌, true, false, ap, sym, ◌∙◌, ◌+◌, arith}
use Rattle.std.specs.Prelude.{is_some}
use Rattle.std.proofs.lemmas.List.{append-nil}
use Rattle.mls_tree.specs.Tree.{node_at}
use Rattle.mls_tree.proofs.ChangedNodeIndices.{non_blank-more}
use Rattle.mls_tree.proofs.changed_nodes.push_non_blank.Goals.{then-is_some+in_ok-push, else-is_some}
use Rattle.mls_tree.proofs.changed_nodes.push_non_blank.Goals as goal

pub loop-offset-preserved : goal.loop-offset-preserved
loop-offset-preserved c =
    let u = c.args.tree.now.tree in
    let here : is_some (node_at u (c.args.first + c.loop-offset.offset)) ≡ c.is_some.result = grind (arith, c.node.ensures, c.is_some.ensures) in
    let more = non_blank-more u c.args.out.now.items c.loop-offset.out.items c.if-is_some.out.items c.args.first c.loop-offset.offset in
    elim c.if-is_some.branch [
      | then-is_some+in_ok-push w ↦ more true c.loop-offset.invariant (here ∙ w.if-is_some.true) (ap (λ v. v.items) w.out-is ∙ w.in_ok-push.ensures.items)
      | else-is_some w ↦ more false c.loop-offset.invariant (here ∙ w.if-is_some.false) (ap (λ v. v.items) w.out-is ∙ sym (append-nil c.loop-offset.out.items))
    ]
