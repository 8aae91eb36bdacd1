use Rattle.std.proofs.Common.{◌∙◌}
use Rattle.mls_apply.proofs.Making.{put-left, put-parents}
use Rattle.mls_apply.proofs.new_parents.put_parents.Goals as goal

pub loop-parent-preserved : goal.loop-parent-preserved
loop-parent-preserved c =
    let t = c.loop-parent.tree.tree in
    let u = c.put_parent.new.self.tree in
    let split = c.in-Some.ensures.items in
    let put = c.in-Ok.ensures.changed in
    record {
      left = c.loop-parent.invariant.left ∙ put-left t u c.loop-parent.parents.items c.pop.new.self.items c.in-Some.parent split put;
      parents = put-parents t u c.loop-parent.parents.items c.pop.new.self.items c.in-Some.parent split put c.loop-parent.invariant.parents;
    }
