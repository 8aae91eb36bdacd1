use Rattle.std.proofs.Common.{◌≡◌, rules}
use Rattle.std.proofs.lemmas.Option.{same_Some}
use Rattle.mls_c.proofs.Moving.{moves}
use Rattle.mls_c.proofs.follower_exports.mls_follower_make_strict.Goals as goal

pub returns-clause-makes : goal.returns-clause-makes
returns-clause-makes c =
    λ asked encodes.
    (let same : c.in-Some.asked ≡ asked = same_Some _ _ (c.in-Some.ensures.inverse asked encodes) in
    moves _ _ c.in-Some-take.open.value _ _ (search rules) c.put.ensures (rw (c.deref_mut.ensures.value, same) at c.make_strict-verdict.ensures))
