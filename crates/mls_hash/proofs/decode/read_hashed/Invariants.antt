use Rattle.std.proofs.Common.{◌≡◌, ◌≤◌, length, map}
use Rattle.mls_wire.specs.Limits.{input_limit}
use Rattle.mls_nodes.specs.NodeValues.{entry_value}
use Rattle.mls_nodes.proofs.RestOfTree.{ReadBefore}
use Rattle.mls_hash.specs.SuiteHash.{hash_of, hash_length}
use Rattle.mls_hash.specs.EncodedLeaves.{AreEntryHashes}
use Rattle.mls_hash.proofs.decode.read_hashed.Given as goal

-- the entries read, followed by those still to be read, are the tree, and their leaves are hashed
abbrev pub invariant-loop-hashes : goal.invariant-loop-hashes
invariant-loop-hashes l = record {
  whole : ReadBefore l.fn.bytes.items (map entry_value l.entries.items) l.reader.reader.rest;
  short : length l.fn.bytes.items ≤ input_limit;
  node_index : l.reader.reader.node_index ≡ length l.entries.items;
  width : l.hashes.width ≡ hash_length l.fn.suite;
  hashes : AreEntryHashes (hash_of l.fn.suite) (map entry_value l.entries.items) l.hashes.hashes;
}

abbrev pub decreases-loop-hashes : goal.decreases-loop-hashes
decreases-loop-hashes l = length l.reader.reader.unread
