use Rattle.std.proofs.Common.{ap, arith, ◌+◌, ◌∙◌, length}
use Rattle.mls_tree.specs.HashCache.{empty_count}
use Rattle.mls_tree.proofs.Emptying.{empty_count-low, empty_count-fill}
use Rattle.mls_tree.proofs.hash_cache.Slots.double.Goals as goal

pub overflow_add-self : goal.overflow_add-self
overflow_add-self c =
    omega (arith, empty_count-low c.args.self.now.hashes.items, c.args.self.now.subtree_count, c.len-more.ensures.count, c.len-more.ensures.limit)

pub invariant_of-self : goal.invariant_of-self
invariant_of-self c =
    let slots = c.args.self.now.hashes.items in
    record {
      subtree_count = omega (arith, c.args.self.now.subtree_count, ap empty_count c.double.ensures.items, empty_count-fill slots (length slots + 1), c.len-more.ensures.count);
      wide = c.double.ensures.width ∙ c.args.self.now.wide;
    }
