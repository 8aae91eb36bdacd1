use Rattle.mls_check.proofs.Plain.{plain_credentials}
use Rattle.mls_check.proofs.plain_leaves.first_unsupported.Goals as goal

pub returns-then-are_plain : goal.returns-then-are_plain
returns-then-are_plain c = plain_credentials c.args.tree.now.tree (c.requires c.if-are_plain.true)
