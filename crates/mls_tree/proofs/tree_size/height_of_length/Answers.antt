use Rattle.mls_tree.proofs.Coordinates.{size_of_length}
use Rattle.mls_tree.proofs.tree_size.height_of_length.Goals as goal

pub returns : goal.returns
returns c = size_of_length c.args.length c.if-length-eq0.false c.height_of.result c.height_of.ensures
