use Rattle.mls_follow.proofs.KnownSigned.{followers_signed}
use Rattle.mls_follow.proofs.laws.known_proposals_are_signed.Goals as goal

pub returns : goal.returns
returns c = record { always = followers_signed }
