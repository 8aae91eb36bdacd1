use Rattle.mls_msgs.proofs.SecretsInInput.{both_skipped}
use Rattle.mls_msgs.proofs.welcome.EncryptedGroupSecretsSkip.skip.Goals as goal

pub returns : goal.returns
returns c = both_skipped c.args.reader.now c.skip.new.reader c.skip-2.new.reader c.in_ok-skip.ensures.0 c.skip-2.result c.in_ok-skip.ensures.1 c.skip-2.ensures
