-- The index of a tree, by its tables.
use Rattle.mls_index.specs.TreeIndex.{IndexHasBase, IndexContainsKeys}
use Rattle.mls_index.specs.declared.node_key.KeyKind.TheVariants.{Encryption, Signature}
use Rattle.mls_index.proofs.KeyTables.{table-base, between-covers}
use Rattle.mls_index.proofs.Counting.{counts-base}

pub index_between : IndexHasBase
index_between t i h = record {
  encryption = table-base Encryption t i.encryption h.encryption;
  signature = table-base Signature t i.signature h.signature;
  credentials = counts-base t i.credentials h.credentials;
}

pub index_covers : IndexContainsKeys
index_covers t i h = record {
  encryption = between-covers Encryption t i.encryption (table-base Encryption t i.encryption h.encryption);
  signature = between-covers Signature t i.signature (table-base Signature t i.signature h.signature);
  credentials = h.credentials.counted;
}
