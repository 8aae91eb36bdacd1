use Rattle.mls_tree.specs.PublicTreeModel.{plain}
use Rattle.mls_follow.proofs.Resuming.{damaged, unreadable_fault, treeless, no_tree_read}
use Rattle.mls_follow.proofs.resume.damage_of.Goals as goal

pub returns-in-Ok-tree_of : goal.returns-in-Ok-tree_of
returns-in-Ok-tree_of c = λ G.
    damaged c.args.bytes.now c.requires.0 c.in-Ok.file (plain c.in-Ok-tree_of.field-0) c.requires.1 c.requires.2 c.in-Ok.ensures.encoded.0 c.in-Ok.ensures.encoded.1
    c.in-Ok-tree_of.ensures

pub returns : goal.returns
returns c = λ G.
    rw c.from-in-Err-tree_of.ensures (unreadable_fault G c.args.bytes.now c.in-Err-tree_of.fault
    (λ own. treeless c.args.bytes.now c.in-Ok.file c.in-Ok.ensures.encoded.0 (no_tree_read c.in-Ok.file.state.tree c.in-Err-tree_of.fault c.in-Err-tree_of.ensures own)))
