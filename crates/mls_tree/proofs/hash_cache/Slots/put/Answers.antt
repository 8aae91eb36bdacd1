use Rattle.std.proofs.Common.{◌≡◌, Bool, true, false, Some, ap, ◌∙◌, sym, arith}
use Rattle.std.specs.Prelude.{is_some, option_map, slice_get}
use Rattle.mls_tree.specs.HashCache.{empty_count}
use Rattle.mls_tree.proofs.Emptying.{put-empty, put-filled}
use Rattle.mls_tree.proofs.hash_cache.Slots.put.Goals as goal

pub overflow_sub-self : goal.overflow_sub-self
overflow_sub-self c =
    let slots = c.args.self.now.hashes.items in
    let was : Some false ≡ option_map is_some (slice_get slots c.args.node_index) = ap (λ (b : Bool). Some b) (sym c.if-not-put.true) ∙ c.put.ensures.was_filled in
    omega (arith, c.args.self.now.subtree_count, put-empty slots c.args.node_index c.args.hash was)

pub invariant_of-self : goal.invariant_of-self
invariant_of-self c =
    let slots = c.args.self.now.hashes.items in
    let was : Some false ≡ option_map is_some (slice_get slots c.args.node_index) = ap (λ (b : Bool). Some b) (sym c.if-not-put.true) ∙ c.put.ensures.was_filled in
    record {
      subtree_count = omega (arith, c.args.self.now.subtree_count, put-empty slots c.args.node_index c.args.hash was, ap empty_count c.put.ensures.items);
      wide = c.put.ensures.width ∙ c.args.self.now.wide;
    }

pub invariant_of-self-else-not-put : goal.invariant_of-self-else-not-put
invariant_of-self-else-not-put c =
    let slots = c.args.self.now.hashes.items in
    let was : Some true ≡ option_map is_some (slice_get slots c.args.node_index) = ap (λ (b : Bool). Some b) (sym c.if-not-put.false) ∙ c.put.ensures.was_filled in
    record {
      subtree_count = omega (arith, c.args.self.now.subtree_count, put-filled slots c.args.node_index c.args.hash was, ap empty_count c.put.ensures.items);
      wide = c.put.ensures.width ∙ c.args.self.now.wide;
    }
