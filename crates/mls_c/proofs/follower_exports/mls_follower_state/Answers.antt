use Rattle.std.proofs.Common.{rules}
use Rattle.mls_c.specs.Messages.{PutsStateFile}
use Rattle.mls_c.proofs.Moving.{of_held}
use Rattle.mls_c.proofs.follower_exports.mls_follower_state.Goals as goal

pub returns-clause-stores : goal.returns-clause-stores
returns-clause-stores c =
    of_held _ c.in-Some.open.value (λ f. PutsStateFile f c.args.state.now c.store-number.new.buffer c.store-number.new.needed c.store-number.result) (search rules) (rw c.deref.ensures at c.store-number.ensures)
