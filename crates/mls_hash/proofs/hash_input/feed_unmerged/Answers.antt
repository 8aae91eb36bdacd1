use Rattle.std.proofs.Common.{arith}
use Rattle.mls_hash.proofs.Inputs.{kept_low, none_held, unmerged_held}
use Rattle.mls_hash.proofs.hash_input.feed_unmerged.Goals as goal

pub returns-then-holds_just : goal.returns-then-holds_just
returns-then-holds_just c =
    none_held c.args.left_out.now c.args.indices.now c.args.hasher.now c.feed_length.new.hasher (c.holds_just.ensures.0 c.if-holds_just.true) c.requires c.feed_length.ensures

pub overflow_mul-count_kept : goal.overflow_mul-count_kept
overflow_mul-count_kept c =
    let low = kept_low c.args.left_out.now c.args.indices.now c.count_kept.result 1048576 c.count_kept.ensures c.requires in omega arith

pub feed_length-requires-2 : goal.feed_length-requires-2
feed_length-requires-2 c =
    let low = kept_low c.args.left_out.now c.args.indices.now c.count_kept.result 1048576 c.count_kept.ensures c.requires in omega arith

pub returns : goal.returns
returns c =
    unmerged_held c.args.left_out.now c.args.indices.now c.count_kept.result c.args.hasher.now c.feed_length-2.new.hasher c.feed_kept.new.hasher c.count_kept.ensures c.requires c.feed_length-2.ensures
    c.feed_kept.ensures
