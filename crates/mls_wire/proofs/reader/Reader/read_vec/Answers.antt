use Rattle.mls_wire.specs.ExactReads.{Reads-exact}
use Rattle.mls_wire.specs.VectorsExact.{vector_exact}
use Rattle.mls_wire.specs.ReadContracts.{seen}
use Rattle.mls_wire.proofs.reader.Reader.read_vec.Goals as goal

pub returns : goal.returns
returns c = Reads-exact _ _ vector_exact _ _ (seen (λ x. x.now) c.next_vec.result) c.next_vec.ensures
