use Rattle.mls_index.proofs.KeyTables.{settling-last}
use Rattle.mls_index.proofs.key_table.KeyTable.leave_others.Goals as goal

pub returns : goal.returns
returns c = λ kind t h.
    settling-last kind t c.args.self.now _ (c.leave_others.ensures.index h.prefixes) (c.leave_others-2.ensures.index h.fingerprints) c.leave_others.ensures.only h
