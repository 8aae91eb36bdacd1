use Rattle.std.proofs.Common.{◌∙◌}
use Rattle.mls_apply.proofs.Making.{put-left, put-parents}
use Rattle.mls_apply.proofs.new_parents.put_parents_in_place.Goals as goal

pub loop-parent-preserved : goal.loop-parent-preserved
loop-parent-preserved c =
    let t = c.loop-parent.tree.tree in
    let u = c.put_parent.new.tree.tree in
    let split = c.in-Some.ensures.items in
    let put = c.in_ok-put_parent.ensures.put in
    record {
      left = c.loop-parent.invariant.left ∙ put-left t u c.loop-parent.parents.items c.pop.new.self.items c.in-Some.parent split put;
      parents = put-parents t u c.loop-parent.parents.items c.pop.new.self.items c.in-Some.parent split put c.loop-parent.invariant.parents;
      same_before = c.put_parent.ensures.before ∙ c.loop-parent.invariant.same_before;
      hashes = λ all. c.put_parent.ensures.hashes (c.loop-parent.invariant.hashes all);
    }
