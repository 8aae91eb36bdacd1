use Rattle.std.proofs.Common.{◌-◌, [], ap, ◌∙◌, arith, length}
use Rattle.std.specs.Prelude.{slice_get}
use Rattle.std.proofs.Math.ListN.{length-replicate}
use Rattle.mls_tree.specs.SubtreeCounts.{zero_count}
use Rattle.mls_tree.proofs.Growing.{slice_get-filled}
use Rattle.mls_tree.proofs.Counting.{AreCounts-blank}
use Rattle.mls_tree.proofs.cached_counts.blank_counts.Goals as goal

pub returns : goal.returns
returns c = λ h e.
    let n = c.args.leaves - 1 in
    let at = c.in_ok-list.ensures in (
      omega (arith, ap length at, length-replicate n zero_count, e, c.requires),
      AreCounts-blank 0 h c.in_ok-list.list.items (λ p low high. ap (λ v. slice_get v p) at ∙ slice_get-filled [] n p zero_count (omega arith) (omega (arith, e))),
    )
