use Rattle.std.proofs.Common.{sym, subst}
use Rattle.mls_tree.specs.Tree.{Tree}
use Rattle.mls_index.specs.TreeIndex.{HasBase, IsIndexOf}
use Rattle.mls_index.proofs.Indexes.{index_between}
use Rattle.mls_apply.proofs.staged_tree.StagedTree.of.Goals as goal

-- the index has the tree as its base, and the journal has no change
pub invariant_of-result : goal.invariant_of-result
invariant_of-result c =
    let tree = c.args.tree.tree in
    record {
      between = subst (λ (t : Tree). HasBase t c.in-Ok.index) (sym (c.new.ensures.nothing tree)) (index_between tree c.in-Ok.index c.in-Ok.ensures);
      staged_nodes = tt;
      clean = subst (λ (t : Tree). IsIndexOf t c.in-Ok.index) (sym (c.new.ensures.nothing tree)) c.in-Ok.ensures;
      hashes = c.new.ensures.hashes tree;
    }
