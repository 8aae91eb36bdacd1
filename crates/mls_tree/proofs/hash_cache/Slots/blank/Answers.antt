use Rattle.std.proofs.Common.{ap, ◌∙◌, sym}
use Rattle.mls_tree.specs.HashCache.{empty_count}
use Rattle.mls_tree.proofs.Emptying.{empty_count-fresh}
use Rattle.mls_tree.proofs.hash_cache.Slots.blank.Goals as goal

pub invariant_of-slots : goal.invariant_of-slots
invariant_of-slots c = record {
  subtree_count = sym (ap empty_count c.in_ok-hashes.ensures.items ∙ empty_count-fresh c.args.count);
  wide = c.in_ok-hashes.ensures.width ∙ c.hash_len.ensures.length;
}
