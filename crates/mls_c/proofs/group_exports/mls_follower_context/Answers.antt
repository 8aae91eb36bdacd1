use Rattle.std.proofs.Common.{rules}
use Rattle.mls_nodes.specs.Layout.{group_context}
use Rattle.mls_c.specs.Followers.{state_in}
use Rattle.mls_c.specs.GroupParts.{PutsEncoding}
use Rattle.mls_c.proofs.Moving.{of_held}
use Rattle.mls_c.proofs.group_exports.mls_follower_context.Goals as goal

pub returns-clause-context : goal.returns-clause-context
returns-clause-context c =
    of_held _ c.in-Some.open.value (λ f. PutsEncoding (group_context (state_in f).context) c.args.context.now c.put_context-number.new.buffer c.put_context-number.new.needed c.put_context-number.result) (search rules) (rw c.deref.ensures at c.put_context-number.ensures)
