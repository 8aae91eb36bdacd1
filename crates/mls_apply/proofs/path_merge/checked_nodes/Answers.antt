use Rattle.mls_index.proofs.Indexes.{index_covers}
use Rattle.mls_apply.proofs.path_merge.checked_nodes.Goals as goal

-- an index of a tree covers it
pub check_keys_and_counts-requires-clause-index_contains_keys : goal.check_keys_and_counts-requires-clause-index_contains_keys
check_keys_and_counts-requires-clause-index_contains_keys c = index_covers c.args.tree.now.tree c.in_ok-index.index c.in_ok-index.ensures
