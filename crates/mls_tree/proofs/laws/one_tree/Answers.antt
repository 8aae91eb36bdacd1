use Rattle.mls_tree.proofs.SameListings.{RatchetTree-listing}
use Rattle.mls_tree.proofs.laws.one_tree.Goals as goal

pub returns : goal.returns
returns c = record { one = RatchetTree-listing }
