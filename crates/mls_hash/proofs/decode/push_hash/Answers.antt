use Rattle.std.proofs.Common.{◌/◌, ◌++◌, ◌∷◌, [], List, ℕ, ap, sym, subst, ◌∙◌, arith, option_map}
use Rattle.std.proofs.lemmas.Result.{on_ok_weaker}
use Rattle.mls_nodes.specs.NodeValues.{entry_value}
use Rattle.mls_tree.specs.HashLists.{EqualHashes}
use Rattle.mls_tree.specs.TreeHash.{leaf_tree_hash_input}
use Rattle.mls_hash.specs.SuiteHash.{hash_of}
use Rattle.mls_hash.specs.EncodedLeaves.{AreEntryHashes}
use Rattle.mls_hash.proofs.EncodedLeaves.{hashes_skip, hashes_push}
use Rattle.mls_hash.proofs.decode.push_hash.Goals as goal

pub returns-then-node_index-eq1-clause-pushed : goal.returns-then-node_index-eq1-clause-pushed
returns-then-node_index-eq1-clause-pushed c = λ nodes long so_far.
    hashes_skip (hash_of c.args.suite) nodes (entry_value c.args.entry.now) c.args.hashes.now.hashes so_far (omega (arith, long, c.if-node_index-eq1.true))

pub returns-clause-pushed : goal.returns-clause-pushed
returns-clause-pushed c =
    let H = hash_of c.args.suite in
    let e = entry_value c.args.entry.now in
    on_ok_weaker c.push.result (λ pushed. λ nodes long so_far.
    subst (λ (hs : List (List ℕ)). AreEntryHashes H (nodes ++ e ∷ []) hs) (sym (ap (λ (v : EqualHashes). v.hashes) pushed))
    (hashes_push H nodes e c.args.hashes.now.hashes so_far c.hash_encoded-hash.result (omega (arith, long, c.if-node_index-eq1.false))
    (λ x is. ap (λ (n : ℕ). option_map H (leaf_tree_hash_input (n / 2) x)) long ∙ c.hash_encoded-hash.ensures.hash x is))) c.push.ensures.pushed
