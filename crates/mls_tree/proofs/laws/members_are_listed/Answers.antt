use Rattle.mls_tree.proofs.Members.{member_count-listing}
use Rattle.mls_tree.proofs.laws.members_are_listed.Goals as goal

pub returns : goal.returns
returns c = member_count-listing
