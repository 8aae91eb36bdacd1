use Rattle.std.proofs.Common.{◌≡◌, ◌∙◌}
use Rattle.std.proofs.lemmas.Option.{same_Some}
use Rattle.mls_c.proofs.input_exports.mls_follower_start_by.Goals as goal

pub returns-clause-starts : goal.returns-clause-starts
returns-clause-starts c =
    λ p asked is encodes whole.
    (let same : c.in-Some.named ≡ p = same_Some _ _ (c.in-Some.ensures ∙ is) in
    let alike : c.in-Some-from_bits.asked ≡ asked = same_Some _ _ (c.in-Some-from_bits.ensures.inverse asked encodes) in
    rw (same, alike) at (c.put_start.ensures.starts whole))
