use Rattle.std.proofs.Common.{ℕ, List, [], ◌∷◌, length, slice_index_or, ap, ◌∙◌}
use Rattle.mls_hash.specs.SuiteHash.{hash_of}
use Rattle.mls_hash.proofs.EncodedLeaves.{leaf_input}
use Rattle.mls_hash.proofs.Lengths.{length-hash_of}
use Rattle.mls_hash.proofs.decode.hash_encoded.Goals as goal

pub returns-clause-hash : goal.returns-clause-hash
returns-clause-hash c = λ x e.
    leaf_input (hash_of c.args.suite) c.args.index x _ c.optional_leaf.result.now c.hash.result c.ranges.index.fits
    (ap (λ (r : List ℕ). 1 ∷ slice_index_or r 0 0 ∷ slice_index_or r 1 0 ∷ slice_index_or r 2 0 ∷ slice_index_or r 3 0 ∷ []) c.to_be_bytes.ensures)
    (c.optional_leaf.ensures x e) c.hash.ensures

pub returns-clause-length : goal.returns-clause-length
returns-clause-length c = ap length c.hash.ensures ∙ length-hash_of c.args.suite _
