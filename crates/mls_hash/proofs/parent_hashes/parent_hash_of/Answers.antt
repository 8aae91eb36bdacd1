use Rattle.mls_wire.specs.Encoding.{◌⊕◌, vector}
use Rattle.mls_hash.specs.SuiteHash.{hash_of}
use Rattle.mls_hash.proofs.Feeding.{both_held, hash_held}
use Rattle.mls_hash.proofs.parent_hashes.parent_hash_of.Goals as goal

pub returns : goal.returns
returns c =
    let key = vector c.args.parent.now.encryption_key in
    let above = vector c.args.parent.now.parent_hash in
    let original = vector c.args.original.now in
    let h0 = c.new-hasher.result in
    let h1 = c.feed_opaque.new.hasher in
    let h2 = c.feed_opaque-2.new.hasher in
    let h3 = c.feed_hash.new.hasher in
    hash_held (hash_of c.args.suite) (key ⊕ above ⊕ original) h0 h3 c.finish.result c.new-hasher.ensures
    (both_held key (above ⊕ original) h0 h1 h3 c.feed_opaque.ensures
    (both_held above original h1 h2 h3 c.feed_opaque-2.ensures c.feed_hash.ensures))
    (c.finish.ensures (hash_of c.args.suite))
