use Rattle.std.proofs.Common.{rules}
use Rattle.mls_wire.specs.EncodedSizes.{vector_some}
use Rattle.mls_hash.specs.SuiteHash.{hash_of}
use Rattle.mls_apply.proofs.Hashing.{interim_from}
use Rattle.mls_apply.proofs.transcript.interim_hash.Goals as goal

pub unreachable-requires : goal.unreachable-requires
unreachable-requires c =
    let there = vector_some c.args.tag.now c.as_slice.ensures.limit in
    search rules

pub returns-in-Ok : goal.returns-in-Ok
returns-in-Ok c = interim_from (hash_of c.args.suite) c.args.confirmed.now c.bytes.result.now c.hash.result c.args.tag.now (search rules) (search rules)
