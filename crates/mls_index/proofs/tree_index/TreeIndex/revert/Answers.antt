use Rattle.mls_index.specs.declared.node_key.KeyKind.TheVariants.{Encryption, Signature}
use Rattle.mls_index.proofs.tree_index.TreeIndex.revert.Goals as goal

pub returns : goal.returns
returns c = λ t h. record {
  encryption = c.revert.ensures Encryption t h.encryption;
  signature = c.revert-2.ensures Signature t h.signature;
  credentials = c.revert-3.ensures t h.credentials;
}
