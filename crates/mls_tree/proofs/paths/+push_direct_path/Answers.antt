use Rattle.mls_tree.proofs.Walking.{direct_path-leaf, direct_path-left, direct_path-right}
use Rattle.std.proofs.Common.{◌++◌, ◌∷◌, [], ◌*◌, ◌+◌, ◌-◌, ◌∙◌, ap}
use Rattle.mls_tree.proofs.paths.+push_direct_path.Goals as goal
use Rattle.mls_tree.proofs.paths.+push_direct_path.Goals.{then-leaf-middle+in_ok-push_direct_path, else-leaf-middle+in_ok-push_direct_path-2}

pub returns-then-level-eq0 : goal.returns-then-level-eq0
returns-then-level-eq0 t c = direct_path-leaf c.args.first c.args.leaf c.args.level c.args.out.now.items c.if-level-eq0.true

pub returns : goal.returns
returns t c =
    elim c.if-leaf-middle.branch [
      | then-leaf-middle+in_ok-push_direct_path w ↦
          direct_path-left c.args.first c.leaves_of.result c.args.level c.args.leaf c.if-level-eq0.false c.leaves_of.ensures.value c.args.out.now.items _ _
          w.if-leaf-middle.true w.in_ok-push_direct_path.ensures (c.in_ok-push.ensures.items ∙ ap (λ v. v.items ++ (2 * (c.args.first + c.leaves_of.result) - 1) ∷ []) w.out-is)
      | else-leaf-middle+in_ok-push_direct_path-2 w ↦
          direct_path-right c.args.first c.leaves_of.result c.args.level c.args.leaf c.if-level-eq0.false c.leaves_of.ensures.value c.args.out.now.items _ _
          w.if-leaf-middle.false w.in_ok-push_direct_path-2.ensures (c.in_ok-push.ensures.items ∙ ap (λ v. v.items ++ (2 * (c.args.first + c.leaves_of.result) - 1) ∷ []) w.out-is)
    ]
