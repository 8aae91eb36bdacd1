use Rattle.std.proofs.Common.{rules, ℕ, List, ◌∙◌, sym, ap, subst, nat_lt, nat_le}
use Rattle.std.specs.List.{position_or_len}
use Rattle.std.specs.List.Sorted.{IsNonDecreasing}
use Rattle.std.proofs.lemmas.List.Sorted.{IsPartitionPoint-from_clause, IsPartitionedBy-ltb}
use Rattle.std.proofs.lemmas.Bool.{OnTrue_at}
use Rattle.mls_nodes.proofs.SortedLists.{parted-first}
use Rattle.mls_nodes.proofs.unmerged.Unmerged.insertion_point.Goals as goal

pub returns-then-self : goal.returns-then-self
returns-then-self c =
    let xs : List ℕ = c.as_slice-leaves.result.now in
    let up : IsNonDecreasing xs = subst IsNonDecreasing (sym c.as_slice-leaves.ensures.items) (OnTrue_at c.if-self.true c.self.invariant.1) in
    let parts = IsPartitionPoint-from_clause (λ x. nat_lt x c.args.leaf) xs c.partition_point.result c.partition_point.ensures.partitioned (IsPartitionedBy-ltb (λ x. x) xs c.args.leaf up) (λ a r q k. search rules) in
    parted-first xs c.args.leaf c.partition_point.result c.partition_point.ensures.bound parts
    ∙ ap (λ (ys : List ℕ). position_or_len (λ x. nat_le c.args.leaf x) ys) (c.as_slice-leaves.ensures.items ∙ c.self.view_is)
