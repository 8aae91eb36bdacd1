use Rattle.std.proofs.Common.{ℕ, List, [], ◌∷◌, Some, None, refl, ap, slice_index_or}
use Rattle.mls_wire.specs.Encoding.{optional}
use Rattle.mls_wire.specs.EncodingConcat.{join}
use Rattle.mls_nodes.specs.Layout as layout
use Rattle.mls_hash.specs.SuiteHash.{hash_of}
use Rattle.mls_hash.proofs.EncodedLeaves.{leaf_input}
use Rattle.mls_hash.proofs.hash_input.hash_leaf.Goals as goal

pub returns-in-Some : goal.returns-in-Some
unfolding optional
returns-in-Some c =
    let x = c.in-Some.leaf.now in
    rw c.in-Some.is
    (leaf_input (hash_of c.args.suite) c.args.index (Some x) _ (1 ∷ c.encoding.result.now) c.hash.result c.ranges.index.fits
    (ap (λ (r : List ℕ). 1 ∷ slice_index_or r 0 0 ∷ slice_index_or r 1 0 ∷ slice_index_or r 2 0 ∷ slice_index_or r 3 0 ∷ []) c.to_be_bytes.ensures)
    (join (Some (1 ∷ [])) (layout.leaf x) (1 ∷ []) c.encoding.result.now refl c.encoding.ensures.encoding) c.hash.ensures)

pub returns-in-None : goal.returns-in-None
unfolding optional
returns-in-None c =
    rw c.in-None.is
    (leaf_input (hash_of c.args.suite) c.args.index None _ (0 ∷ []) c.hash-in-None.result c.ranges.index.fits
    (ap (λ (r : List ℕ). 1 ∷ slice_index_or r 0 0 ∷ slice_index_or r 1 0 ∷ slice_index_or r 2 0 ∷ slice_index_or r 3 0 ∷ []) c.to_be_bytes.ensures)
    refl c.hash-in-None.ensures)
