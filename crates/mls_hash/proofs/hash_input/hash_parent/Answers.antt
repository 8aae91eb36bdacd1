use Rattle.std.specs.Prelude.{option_copied, option_map}
use Rattle.std.specs.Int.{w8}
use Rattle.mls_wire.specs.Encoding.{◌⊕◌, number, optional, vector}
use Rattle.mls_nodes.specs.Layout as layout
use Rattle.mls_hash.specs.SuiteHash.{hash_of}
use Rattle.mls_hash.specs.WithoutLeaves.{stripped_parent}
use Rattle.mls_hash.proofs.Feeding.{both_held, first_two_held, hash_held}
use Rattle.mls_hash.proofs.hash_input.hash_parent.Goals as goal

pub returns : goal.returns
returns c =
    let node = optional layout.parent (option_map (stripped_parent c.args.left_out.now) (option_copied c.args.node)) in
    let hashes = vector c.args.left.now ⊕ vector c.args.right.now in
    let h0 = c.new-hasher.result in
    let h1 = c.feed_type_and_parent.new.hasher in
    let h2 = c.feed_hash.new.hasher in
    let h3 = c.feed_hash-2.new.hasher in
    hash_held (hash_of c.args.suite) (number w8 2 ⊕ node ⊕ hashes) h0 h3 c.finish.result c.new-hasher.ensures
    (first_two_held (number w8 2) node hashes h0 h3
    (both_held (number w8 2 ⊕ node) hashes h0 h1 h3 c.feed_type_and_parent.ensures
    (both_held (vector c.args.left.now) (vector c.args.right.now) h1 h2 h3 c.feed_hash.ensures c.feed_hash-2.ensures)))
    (c.finish.ensures (hash_of c.args.suite))
