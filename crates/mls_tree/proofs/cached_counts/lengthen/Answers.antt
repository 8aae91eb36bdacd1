use Rattle.std.proofs.Common.{◌≡◌, ◌+◌, ◌*◌, length, replicate, ap, sym, subst, arith, length-append}
use Rattle.std.proofs.Math.ListN.{length-replicate}
use Rattle.mls_tree.specs.Tree.{height, leaf_count}
use Rattle.mls_tree.specs.TreeOperations.{blank_tree, extend}
use Rattle.mls_tree.specs.SubtreeCounts.{zero_count, AreOutside}
use Rattle.mls_tree.proofs.Kept.{leaf_count-extend}
use Rattle.mls_tree.proofs.Counting.{beside-extend}
use Rattle.mls_tree.proofs.cached_counts.lengthen.Goals as goal

pub returns : goal.returns
returns c = λ t perfect ok.
    let cs = c.args.counts.now.list.items in
    let n = c.len-more.result + 1 in
    let at = c.push_zeros.ensures in
    let more : n ≡ length cs + 1 = omega (arith, c.len-more.ensures, c.args.counts.now.list.ok.0) in
    let twice : leaf_count t + leaf_count (blank_tree (height t)) ≡ 2 * leaf_count t = leaf_count-extend t perfect in (
      omega (arith, ap length at, length-append cs (replicate n zero_count), length-replicate n zero_count, more, ok.0, twice),
      subst (AreOutside 0 (extend t) 0) (sym at) (beside-extend t cs n perfect ok.0 more ok.1),
    )
