use Rattle.std.proofs.Common.{ℕ, List, sym, subst, ◌∙◌}
use Rattle.std.specs.List.Sorted.{IsPermutation}
use Rattle.mls_hash.specs.SuiteHash.{hash_of}
use Rattle.mls_hash.proofs.Answers.{gives_parent_hash}
use Rattle.mls_hash.proofs.parent_hashes.parent_hash.Goals as goal

pub returns-clause-hash : goal.returns-clause-hash
returns-clause-hash c =
    let same = rw c.as_slice.ensures.items at c.in_ok-leaves.ensures.same in
    let sorted = subst (λ (L : List ℕ). IsPermutation c.in-Some.parent.now.unmerged L) (sym (c.new-left_out.ensures ∙ c.deref.ensures.value)) same in
    gives_parent_hash (hash_of c.args.suite) c.args.tree.now.tree c.args.node_index c.args.side _ c.in-Some.parent.now c.in-Some.ensures _ c.in_ok-original.original
    c.parent_hash_of.result sorted c.in_ok-original.ensures c.parent_hash_of.ensures
