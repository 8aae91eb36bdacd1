use Rattle.mls_strict.proofs.Senders.{sender-skipped}
use Rattle.mls_strict.proofs.extension_lists.skip_sender.Goals as goal

pub returns : goal.returns
returns c =
    sender-skipped c.args.reader.now c.parse.new.reader c.skip_credential.new.reader _ c.skip_credential.result c.in_ok-parse.ensures c.skip_credential.ensures
