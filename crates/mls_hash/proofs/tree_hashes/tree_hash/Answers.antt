use Rattle.std.proofs.Common.{ℕ, List, ap, ◌∙◌}
use Rattle.mls_hash.specs.SuiteHash.{hash_of}
use Rattle.mls_hash.specs.WithoutLeaves.{original_tree_hash_at}
use Rattle.mls_hash.proofs.Answers.{gives_hash, whole_tree}
use Rattle.mls_hash.proofs.tree_hashes.tree_hash.Goals as goal

pub returns-clause-hash : goal.returns-clause-hash
returns-clause-hash c =
    gives_hash _ _ _ c.hash_subtree.result
    (ap (λ (L : List ℕ). original_tree_hash_at (hash_of c.args.suite) L c.args.tree.now.tree c.args.node_index) c.empty.ensures ∙ whole_tree (hash_of c.args.suite) c.args.tree.now.tree c.args.node_index)
    c.hash_subtree.ensures
