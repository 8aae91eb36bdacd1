use Rattle.std.proofs.Common.{rules, ◌↔◌}
use Rattle.std.specs.Prelude.{IsTrue}
use Rattle.std.specs.List.Sorted.{IsStrictlyIncreasing}
use Rattle.std.proofs.lemmas.List.Sorted.{IsNonDecreasingBy-from_sort}
use Rattle.mls_check.proofs.Differing.{differ-sorted}
use Rattle.mls_check.proofs.Neighbours.{increasing-tested}
use Rattle.mls_check.proofs.key_prefixes.all_differ.Goals as goal

pub returns : goal.returns
returns c =
    let is = c.as_slice.ensures.value in
    let sorted = c.sort_unstable.new.self.items in
    let up = IsNonDecreasingBy-from_sort (λ x. x) sorted c.sort_unstable.ensures.sorted in
    let moved = c.sort_unstable.ensures.permutation in
    let both = differ-sorted c.args.prefixes.items c.as_slice.result.now (rw is moved) (rw is up) in
    let rises : IsTrue c.is_sorted_by.result ↔ IsStrictlyIncreasing c.as_slice.result.now =
    increasing-tested _ _ _ (λ a b f' k. search rules) c.is_sorted_by.ensures.cases in
    (λ answer. both.0 (rises.0 answer), λ differ. rises.1 (both.1 differ))
