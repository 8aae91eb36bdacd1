use Rattle.std.proofs.Common.{◌++◌, ap, ◌∙◌, replicate}
use Rattle.mls_tree.specs.SubtreeCounts.{zero_count}
use Rattle.mls_tree.proofs.cached_counts.zeros.Goals as goal

pub returns : goal.returns
returns c = c.push_zeros.ensures ∙ ap (λ v. v ++ replicate c.args.count zero_count) (c.in_ok-try_reserve.ensures.items ∙ c.new-list.ensures.items)
