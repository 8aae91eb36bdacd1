use Rattle.mls_strict.proofs.Senders.{basic-skipped, x509-skipped}
use Rattle.mls_strict.proofs.extension_lists.skip_credential.Goals as goal

pub returns-in_ok-parse-in-1 : goal.returns-in_ok-parse-in-1
returns-in_ok-parse-in-1 c =
    basic-skipped c.args.reader.now c.parse_u16.new.reader c.parse.new.reader _ (rw c.in-1.is at c.in_ok-kind.ensures) c.in_ok-parse-in-1.ensures

pub returns-in_ok-parse-in-2 : goal.returns-in_ok-parse-in-2
returns-in_ok-parse-in-2 c =
    x509-skipped c.args.reader.now c.parse_u16.new.reader c.parse-in-2.new.reader _ (rw c.in-2.is at c.in_ok-kind.ensures) c.in_ok-parse-in-2.ensures
