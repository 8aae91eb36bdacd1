use Rattle.std.proofs.Common.{◌≡◌, ◌+◌, ◌-◌, arith, ap, sym, ◌∙◌, subst, length, take}
use Rattle.std.proofs.lemmas.List.{length-take-le}
use Rattle.mls_tree.specs.SubtreeCounts.{AreCounts}
use Rattle.mls_tree.proofs.Counting.{AreCounts-take}
use Rattle.mls_tree.proofs.cached_counts.shorten.Goals as goal

pub returns : goal.returns
returns c = λ t e front.
    let cs = c.args.counts.now.list.items in
    let k = c.args.leaves - 1 in
    let n : k + 1 ≡ c.args.leaves = omega (arith, c.requires) in
    let long : length (take k cs) ≡ k = length-take-le k cs (let low = front.0 in omega (arith, e)) in
    let at = c.truncate.ensures.items in
    (omega (arith, ap length at, long, e), subst (AreCounts 0 t) (sym at) (AreCounts-take t cs k (n ∙ sym e) front.1))
