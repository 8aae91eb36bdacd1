use Rattle.std.proofs.Common.{rules}
use Rattle.mls_tree.specs.Tree.{leaf_at}
use Rattle.mls_c.specs.Followers.{state_in}
use Rattle.mls_c.specs.GroupParts.{PutsMember}
use Rattle.mls_c.proofs.Moving.{of_held}
use Rattle.mls_c.proofs.group_exports.mls_follower_member.Goals as goal

pub returns-clause-member : goal.returns-clause-member
returns-clause-member c =
    let put = c.put_member-number in
    of_held _ c.in-Some.open.value
    (λ f. PutsMember (leaf_at 0 (state_in f).tree c.args.leaf) c.args.credential.now put.new.credential put.new.credential_needed c.args.signature_key.now put.new.key put.new.key_needed put.result)
    (search rules) (rw c.deref.ensures at put.ensures)
