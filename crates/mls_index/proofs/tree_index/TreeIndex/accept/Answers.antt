use Rattle.mls_index.proofs.tree_index.TreeIndex.accept.Goals as goal

pub returns : goal.returns
returns c = λ t h covers same. record {
  encryption = c.accept.ensures t h.encryption covers.encryption same;
  signature = c.accept-2.ensures t h.signature covers.signature same;
  credentials = c.accept-3.ensures c.args.tree.now.tree covers.credentials;
}
