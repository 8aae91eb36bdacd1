use Rattle.std.proofs.Common.{[], ◌∷◌, Some, refl, arith}
use Rattle.std.specs.Int.{w8}
use Rattle.mls_wire.specs.Encoding.{number, optional}
use Rattle.mls_wire.specs.EncodingConcat.{join}
use Rattle.mls_wire.specs.IntegersExact.{byte_made}
use Rattle.mls_nodes.specs.Layout as layout
use Rattle.mls_hash.specs.WithoutLeaves.{stripped_parent}
use Rattle.mls_hash.proofs.Feeding.{both_held, bytes_held, first_two_held}
use Rattle.mls_hash.proofs.hash_input.feed_type_and_parent.Goals as goal

pub returns-in-None : goal.returns-in-None
unfolding optional
returns-in-None c =
    rw c.in-None.is
    (bytes_held _ (2 ∷ 0 ∷ []) c.args.hasher.now c.update.new.self
    (join (number w8 2) (Some (0 ∷ [])) (2 ∷ []) (0 ∷ []) (byte_made 2 (omega arith)) refl) c.update.ensures)

pub returns-in-Some : goal.returns-in-Some
unfolding optional
returns-in-Some c =
    let h0 = c.args.hasher.now in
    let h1 = c.update-in-Some.new.self in
    let h2 = c.feed_parent.new.hasher in
    let node = layout.parent (stripped_parent c.args.left_out.now c.in-Some.node.now) in
    rw c.in-Some.is
    (first_two_held (number w8 2) (Some (1 ∷ [])) node h0 h2
    (both_held _ node h0 h1 h2
    (bytes_held _ (2 ∷ 1 ∷ []) h0 h1 (join (number w8 2) (Some (1 ∷ [])) (2 ∷ []) (1 ∷ []) (byte_made 2 (omega arith)) refl) c.update-in-Some.ensures)
    c.feed_parent.ensures))
