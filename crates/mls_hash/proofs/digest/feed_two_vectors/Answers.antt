use Rattle.mls_wire.specs.Encoding.{vector}
use Rattle.mls_hash.proofs.Feeding.{both_held}
use Rattle.mls_hash.proofs.digest.feed_two_vectors.Goals as goal

pub returns : goal.returns
returns c =
    both_held (vector c.args.first.now) (vector c.args.second.now) c.args.hasher.now c.feed_vector.new.hasher c.feed_vector-2.new.hasher
    c.feed_vector.ensures c.feed_vector-2.ensures
