use Rattle.std.proofs.Common.{rules, slice_get}
use Rattle.mls_c.specs.Followers.{state_in}
use Rattle.mls_c.specs.GroupParts.{PutsReference}
use Rattle.mls_c.proofs.Moving.{of_held}
use Rattle.mls_c.proofs.group_exports.mls_follower_pending_at.Goals as goal

pub returns-clause-reference : goal.returns-clause-reference
returns-clause-reference c =
    let put = c.put_reference-number in
    of_held _ c.in-Some.open.value (λ f. PutsReference (slice_get (state_in f).known c.args.k) c.args.reference.now put.new.buffer put.new.needed put.result) (search rules) (rw c.deref.ensures at put.ensures)
