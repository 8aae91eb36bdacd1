use Rattle.mls_tree.proofs.Replacing.{listing-put_leaf, listing-put_parent}
use Rattle.mls_tree.proofs.laws.one_entry_is_replaced.Goals as goal

pub returns : goal.returns
returns c = record { leaf = listing-put_leaf; parent = listing-put_parent }
