use Rattle.std.proofs.Common.{ap, ◌∙◌, sym, arith, is_some}
use Rattle.mls_tree.proofs.Walking.{is_some-copied}
use Rattle.mls_tree.proofs.Lookups.{no_some}
use Rattle.mls_tree.proofs.FirstBlanks.{next_blank_leaf-found, next_blank_leaf-none}
use Rattle.mls_tree.proofs.node_array.NodeArray.search_blank_leaf.Goals as goal

pub returns-then-is_none : goal.returns-then-is_none
returns-then-is_none c =
    sym (next_blank_leaf-found c.args.start c.args.self.now.tree c.loop-index.index (record {
      late = omega arith;
      inside = omega (arith, c.leaf_count-index-end.ensures);
      blank = no_some _ (ap is_some (sym c.leaf.ensures) ∙ is_some-copied c.leaf.result ∙ c.if-is_none.ensures);
      earlier = c.loop-index.invariant;
    }))

pub returns : goal.returns
returns c = sym (next_blank_leaf-none c.args.start c.args.self.now.tree (λ i late l. c.loop-index.invariant i late (omega (arith, c.leaf_count-index-end.ensures))))
