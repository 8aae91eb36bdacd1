use Rattle.std.proofs.Common.{◌-◌, length, refl}
use Rattle.mls_nodes.proofs.StoredLeaves.{front_length, front_encodes, stored_is}
use Rattle.mls_nodes.proofs.encoded_leaf.EncodedLeaf.read_from.Goals as goal

pub read_bytes-requires-clause-after : goal.read_bytes-requires-clause-after
read_bytes-requires-clause-after c =
    let there = rw (c.fork-ahead.ensures, c.in-Ok.is) at c.parse-parsed.ensures in
    front_length c.in-Ok.fields c.args.reader.now c.parse-parsed.new.reader there

pub invariant_of-result : goal.invariant_of-result
invariant_of-result c =
    let there = rw (c.fork-ahead.ensures, c.in-Ok.is) at c.parse-parsed.ensures in
    let encodes = rw (← c.in_ok-bytes.ensures.bytes) at (front_encodes c.in-Ok.fields c.args.reader.now c.parse-parsed.new.reader (length c.args.reader.now.left - length c.parse-parsed.new.reader.left) there refl) in
    let stored = rw (c.as_slice-encryption_key.ensures, c.as_slice-signature_key.ensures) at c.in_ok-fingerprints.ensures in
    rw (stored_is c.in-Ok.fields c.in_ok-bytes.bytes encodes) (encodes, c.in_ok-bytes.ensures.limit, stored, c.is_plain-is_plain.ensures)

pub returns : goal.returns
returns c =
    let there = rw (c.fork-ahead.ensures, c.in-Ok.is) at c.parse-parsed.ensures in
    let encodes = rw (← c.in_ok-bytes.ensures.bytes) at (front_encodes c.in-Ok.fields c.args.reader.now c.parse-parsed.new.reader (length c.args.reader.now.left - length c.parse-parsed.new.reader.left) there refl) in
    rw (stored_is c.in-Ok.fields c.in_ok-bytes.bytes encodes) there
