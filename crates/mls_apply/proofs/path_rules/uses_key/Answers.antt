use Rattle.mls_apply.proofs.PathKeys.{stands}
use Rattle.mls_apply.proofs.path_rules.uses_key.Goals as goal

pub returns : goal.returns
returns c = stands c.args.key.now c.args.tree.now.tree c.has_key.result (c.has_key.ensures c.requires)
