use Rattle.mls_index.specs.declared.node_key.KeyKind.TheVariants.{Encryption, Signature}
use Rattle.mls_index.proofs.KeyTables.{between-covers}
use Rattle.mls_index.proofs.tree_index.TreeIndex.stage.Goals as goal

pub returns-in_err-stage-clause-index_base : goal.returns-in_err-stage-clause-index_base
returns-in_err-stage-clause-index_base c = λ t h. record {
  encryption = c.stage.ensures.index_base t h.encryption;
  signature = h.signature;
  credentials = h.credentials;
}

pub returns-in_err-stage-2-clause-index_base : goal.returns-in_err-stage-2-clause-index_base
returns-in_err-stage-2-clause-index_base c = λ t h. record {
  encryption = c.stage.ensures.index_base t h.encryption;
  signature = c.stage-2.ensures.index_base t h.signature;
  credentials = h.credentials;
}

pub returns-in_err-stage-3-clause-index_base : goal.returns-in_err-stage-3-clause-index_base
returns-in_err-stage-3-clause-index_base c = λ t h. record {
  encryption = c.stage.ensures.index_base t h.encryption;
  signature = c.stage-2.ensures.index_base t h.signature;
  credentials = c.stage-3.ensures.index_base t h.credentials;
}

pub returns-clause-index_base : goal.returns-clause-index_base
returns-clause-index_base c = λ t h. record {
  encryption = c.stage.ensures.index_base t h.encryption;
  signature = c.stage-2.ensures.index_base t h.signature;
  credentials = c.stage-3.ensures.index_base t h.credentials;
}

pub returns-clause-index_contains_keys : goal.returns-clause-index_contains_keys
returns-clause-index_contains_keys c = λ t h same.
    let old = c.args.self.now in
    record {
      encryption = c.in_ok-stage.ensures.index_contains_keys t (between-covers Encryption t old.encryption h.encryption) same;
      signature = c.in_ok-stage-2.ensures.index_contains_keys t (between-covers Signature t old.signature h.signature) same;
      credentials = c.in_ok-stage-3.ensures.counts t h.credentials same;
    }
