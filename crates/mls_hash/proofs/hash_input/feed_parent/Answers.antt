use Rattle.std.proofs.Common.{ℕ, List, subst}
use Rattle.mls_wire.specs.Encoding.{◌⊕◌, vector}
use Rattle.mls_nodes.specs.Layout as layout
use Rattle.mls_hash.specs.HasherModel.{HoldsMore}
use Rattle.mls_hash.specs.WithoutLeaves.{without}
use Rattle.mls_hash.proofs.Feeding.{both_held}
use Rattle.mls_hash.proofs.hash_input.feed_parent.Goals as goal

pub returns : goal.returns
unfolding layout.parent
returns c =
    let L = c.args.left_out.now in
    let p = c.args.node.now in
    let h1 = c.feed_opaque.new.hasher in
    let h2 = c.feed_opaque-2.new.hasher in
    let h3 = c.feed_unmerged.new.hasher in
    let leaves = layout.unmerged (without L p.unmerged) in
    both_held (vector p.encryption_key) (vector p.parent_hash ⊕ leaves) c.args.hasher.now h1 h3 c.feed_opaque.ensures
    (both_held (vector p.parent_hash) leaves h1 h2 h3 c.feed_opaque-2.ensures
    (subst (λ (s : List ℕ). HoldsMore (layout.unmerged (without L s)) h2 h3) c.as_slice.ensures.items c.feed_unmerged.ensures))
