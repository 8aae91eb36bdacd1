use Rattle.std.proofs.Common.{◌≡◌, ◌∙◌}
use Rattle.std.proofs.lemmas.Option.{same_Some}
use Rattle.mls_c.proofs.input_exports.mls_follower_start.Goals as goal

pub returns-clause-starts : goal.returns-clause-starts
returns-clause-starts c =
    λ p is whole.
    (let same : c.in-Some.named ≡ p = same_Some _ _ (c.in-Some.ensures ∙ is) in
    rw (c.plain.ensures, same) at (c.put_start.ensures.starts whole))
