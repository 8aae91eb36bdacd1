use Rattle.std.proofs.Common.{◌<◌, ◌∙◌, length, sym, arith}
use Rattle.mls_signatures.proofs.AddedLeaves.{at_place}
use Rattle.mls_signatures.proofs.new_leaf_signatures.is_repeat.Goals as goal

pub returns-then-have_one_reference : goal.returns-then-have_one_reference
returns-then-have_one_reference c = λ e.
    let leaves = c.args.leaves.now in
    let earlier = c.in-Some.earlier in
    let before : earlier < c.args.position = omega (arith, c.if-earlier-position.false) in
    let inside : earlier < length leaves = omega (arith, before, c.requires) in
    record {
      at = earlier;
      before = before;
      here = c.index-leaves-position.result;
      there = c.index-leaves-earlier.result;
      is_here = at_place leaves c.args.position c.index-leaves-position.result c.requires c.index-leaves-position.is;
      is_there = at_place leaves earlier c.index-leaves-earlier.result inside c.index-leaves-earlier.is;
      named = c.have_one_reference.ensures c.if-have_one_reference.true;
      source = sym (rw c.source.ensures at c.is_from_key_package.ensures) ∙ e;
    }
