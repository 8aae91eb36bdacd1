use Rattle.std.proofs.Common.{◌+◌, length, refl}
use Rattle.mls_nodes.proofs.Lengths.{vector_has}
use Rattle.mls_nodes.proofs.encoded_len.length_of_body.Goals as goal

pub returns-clause-length : goal.returns-clause-length
returns-clause-length c =
    let bytes = c.args.bytes.now in
    vector_has bytes c.length_of_prefix.result (c.length_of_prefix.result + length bytes) c.length_of_prefix.ensures.length refl
