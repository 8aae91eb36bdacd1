use Rattle.mls_hash.proofs.Feeding.{vector_held}
use Rattle.mls_hash.proofs.digest.feed_vector.Goals as goal

pub returns : goal.returns
returns c = vector_held c.args.body.now c.args.hasher.now c.feed_length.new.hasher c.update.new.self c.feed_length.ensures c.update.ensures
