use Rattle.mls_follow.proofs.ResumableStays.{rising_signed}
use Rattle.mls_follow.proofs.RisingRuns.{rising_valid, rising_follower_valid, rising_answered}
use Rattle.mls_follow.proofs.laws.rising_followers_are_valid.Goals as goal

pub returns : goal.returns
returns c = record { runs = rising_valid; always = rising_follower_valid; signed = rising_signed; answered = rising_answered }
