use Rattle.mls_tree.proofs.HashRows.{length-hashes_in}
use Rattle.mls_tree.proofs.hash_list.HashList.blank.Goals as goal

pub returns-clause-count : goal.returns-clause-count
returns-clause-count c = length-hashes_in c.args.width c.args.count c.in_ok-bytes.bytes.items
