use Rattle.std.proofs.Common.{◌∙◌, sym}
use Rattle.mls_nodes.specs.LeafNodeTBS.{leaf_tbs}
use Rattle.mls_check.proofs.ContentLengths.{at_most_length}
use Rattle.mls_check.proofs.Contents.{is_leaf_signed-all, is_leaf_signed-over}
use Rattle.mls_check.proofs.members.is_leaf_signed.Goals as goal

pub returns-then-has_short_tbs : goal.returns-then-has_short_tbs
returns-then-has_short_tbs g c =
    let tbs = at_most_length (leaf_tbs c.args.leaf.now c.args.group_id.now c.args.index) 1073741823 (c.if-has_short_tbs.ensures c.args.index c.ranges.index.fits) in
    sym (is_leaf_signed-all _ c.args.suite c.args.group_id.now c.args.index c.args.leaf.now tbs.0 tbs.1 tbs.2 c.if-accepts_all.ensures)

pub returns-then-leaf_tbs_len : goal.returns-then-leaf_tbs_len
returns-then-leaf_tbs_len g c =
    sym (is_leaf_signed-over _ c.args.suite c.args.group_id.now c.args.index c.args.leaf.now c.leaf_tbs_len.result c.leaf_tbs_len.ensures.length c.if-leaf_tbs_len.true)

pub returns-then-accepts_all-2 : goal.returns-then-accepts_all-2
returns-then-accepts_all-2 g c =
    c.if-accepts_all-2.true
    ∙ sym (is_leaf_signed-all _ c.args.suite c.args.group_id.now c.args.index c.args.leaf.now c.leaf_tbs_len.result c.leaf_tbs_len.ensures.length c.if-leaf_tbs_len.false c.if-accepts_all-2.ensures)
