use Rattle.std.proofs.Common.{ℕ, List, ap, ◌∙◌}
use Rattle.std.proofs.lemmas.List.Sorted.{searched}
use Rattle.mls_hash.specs.WithoutLeaves.{is_among}
use Rattle.mls_hash.proofs.Sets.{found}
use Rattle.mls_hash.proofs.leaf_set.LeafSet.contains.Goals as goal

pub returns : goal.returns
returns c =
    let leaves : List ℕ = c.self.inside.leaves.now in
    c.is_ok.ensures.value
    ∙ found leaves c.args.leaf c.binary_search.result (searched leaves c.args.leaf c.binary_search.result c.binary_search.ensures.position (λ i j. c.self.invariant i j 0))
    ∙ ap (λ (xs : List ℕ). is_among xs c.args.leaf) c.self.view_is
