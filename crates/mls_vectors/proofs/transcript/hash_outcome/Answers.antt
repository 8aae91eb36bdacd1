use Rattle.mls_vectors.proofs.Commits.{input_there}
use Rattle.mls_vectors.proofs.transcript.hash_outcome.Goals as goal

pub confirmed_hash-requires : goal.confirmed_hash-requires
confirmed_hash-requires c = input_there c.args.auth.now c.requires.bytes c.requires.encoded
