use Rattle.mls_apply.proofs.BlankTrees.{blank_if_counted}
use Rattle.mls_apply.proofs.blank_hashes.is_blank.Goals as goal

pub returns-in-Ok : goal.returns-in-Ok
returns-in-Ok c =
    blank_if_counted c.in-Ok.is_empty c.args.tree.now.tree c.args.node_index c.new-none.result c.new-none.ensures.empty
    (λ none. let missing = c.in-Ok.ensures.no_such_node.1 none in absurd (cc)) c.in-Ok.ensures.answer
