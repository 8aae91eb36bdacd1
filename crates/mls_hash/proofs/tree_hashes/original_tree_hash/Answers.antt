use Rattle.std.proofs.Common.{ℕ, List, sym, subst, ◌∙◌}
use Rattle.std.specs.List.Sorted.{IsPermutation}
use Rattle.mls_hash.specs.SuiteHash.{hash_of}
use Rattle.mls_hash.proofs.Answers.{gives_hash, sorted_tree}
use Rattle.mls_hash.proofs.tree_hashes.original_tree_hash.Goals as goal

pub returns-clause-hash : goal.returns-clause-hash
returns-clause-hash c =
    let same = subst (λ (L : List ℕ). IsPermutation c.args.leaves.now L) (sym (c.new-left_out.ensures ∙ c.deref.ensures.value)) c.in_ok-leaves.ensures.same in
    gives_hash _ _ _ c.hash_subtree.result (sorted_tree (hash_of c.args.suite) c.args.leaves.now _ same c.args.tree.now.tree c.args.node_index) c.hash_subtree.ensures
