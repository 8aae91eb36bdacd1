use Rattle.mls_tree.specs.PublicTreeModel.{plain}
use Rattle.mls_follow.proofs.Resuming.{known_true, known_false}
use Rattle.mls_follow.proofs.Storing.{no_body, body_read, body_unread}
use Rattle.mls_follow.proofs.stored_state.body_of.Goals as goal

pub returns-then-not-encodes_tree-clause-none : goal.returns-then-not-encodes_tree-clause-none
returns-then-not-encodes_tree-clause-none c = λ own.
    no_body c.args.bytes.now (plain c.args.tree.now) c.requires (known_false _ c.if-not-encodes_tree.true c.encodes_tree.ensures.other)

pub returns-clause-body : goal.returns-clause-body
returns-clause-body c =
    body_read c.args.bytes.now (plain c.args.tree.now) c.requires (known_true _ c.if-not-encodes_tree.false c.encodes_tree.ensures.same) c.read_input.result c.read_input.ensures.encoded

pub returns-clause-none : goal.returns-clause-none
returns-clause-none c =
    body_unread c.args.bytes.now (plain c.args.tree.now) c.requires (known_true _ c.if-not-encodes_tree.false c.encodes_tree.ensures.same) c.read_input.result c.read_input.ensures.encoded
