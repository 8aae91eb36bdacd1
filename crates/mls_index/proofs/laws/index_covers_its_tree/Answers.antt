use Rattle.mls_index.proofs.Indexes.{index_between, index_covers}
use Rattle.mls_index.proofs.laws.index_covers_its_tree.Goals as goal

pub returns : goal.returns
returns c = record { index_base = index_between; index_contains_keys = index_covers }
