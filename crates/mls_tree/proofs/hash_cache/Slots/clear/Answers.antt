use Rattle.std.proofs.Common.{◌≡◌, Bool, true, false, Some, ap, ◌∙◌, sym, arith}
use Rattle.std.specs.Prelude.{is_some, option_map, slice_get}
use Rattle.mls_tree.specs.HashCache.{empty_count}
use Rattle.mls_tree.proofs.Emptying.{empty_count-low, cleared-filled, cleared-blank}
use Rattle.mls_tree.proofs.hash_cache.Slots.clear.Goals as goal

pub overflow_add-self : goal.overflow_add-self
overflow_add-self c = omega (arith, empty_count-low c.args.self.now.hashes.items, c.args.self.now.subtree_count, c.clear.ensures.limit)

pub invariant_of-self : goal.invariant_of-self
invariant_of-self c =
    let slots = c.args.self.now.hashes.items in
    let was : Some true ≡ option_map is_some (slice_get slots c.args.node_index) = ap (λ (b : Bool). Some b) (sym c.if-clear.true) ∙ c.clear.ensures.was_filled in
    record {
      subtree_count = omega (arith, c.args.self.now.subtree_count, cleared-filled slots c.args.node_index was, ap empty_count c.clear.ensures.items);
      wide = c.clear.ensures.width ∙ c.args.self.now.wide;
    }

pub invariant_of-self-else-clear : goal.invariant_of-self-else-clear
invariant_of-self-else-clear c =
    let slots = c.args.self.now.hashes.items in
    let was : Some false ≡ option_map is_some (slice_get slots c.args.node_index) = ap (λ (b : Bool). Some b) (sym c.if-clear.false) ∙ c.clear.ensures.was_filled in
    record {
      subtree_count = omega (arith, c.args.self.now.subtree_count, cleared-blank slots c.args.node_index was, ap empty_count c.clear.ensures.items);
      wide = c.clear.ensures.width ∙ c.args.self.now.wide;
    }
