use Rattle.std.proofs.Common.{None, sym, subst}
use Rattle.mls_tree.specs.Tree.{Tree}
use Rattle.mls_follow.specs.CommitTree.{initial_state_of_tree}
use Rattle.mls_follow.specs.Start.{IsStart}
use Rattle.mls_follow.proofs.start.check_embedded_tree.Goals as goal

pub returns-in-Ok-clause-started : goal.returns-in-Ok-clause-started
returns-in-Ok-clause-started g c = λ profile.
    (let info = c.args.info.now in
    subst (λ (t : Tree). IsStart c.args.rules.now.asked profile (g.C.SignatureCheck.meaning c.args.checker.now) info None (initial_state_of_tree c.args.rules.now.asked profile info t c.in-Ok.found.1.interim))
    (sym c.in-Ok.ensures.tree) (c.in-Ok.ensures.started profile None c.in_ok-tree.ensures.tree))
