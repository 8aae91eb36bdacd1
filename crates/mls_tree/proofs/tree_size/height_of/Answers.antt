use Rattle.std.proofs.Common.{◌∙◌, sym}
use Rattle.mls_tree.proofs.Numbers.{leaves_at-pow}
use Rattle.mls_tree.proofs.tree_size.height_of.Goals as goal

pub returns : goal.returns
returns c = (c.if-height-gt20.false, c.in-Some.ensures ∙ sym (leaves_at-pow c.in-Some.height))
