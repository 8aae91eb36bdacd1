use Rattle.mls_nodes.proofs.SendersOnce.{senders_by-determines, senders_by-determined}
use Rattle.mls_nodes.proofs.laws.senders_are_determined.Goals as goal

pub returns : goal.returns
returns c = λ extensions senders. (senders_by-determines extensions senders, senders_by-determined extensions senders)
