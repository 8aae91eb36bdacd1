-- How long a LeafNodeTBS is at most: as long as the leaf node, a group id and eight bytes.
use Rattle.std.proofs.Common.{◌≡◌, ℕ, ◌+◌, ◌^◌, ◌<◌, ◌≤◌, List, ◌++◌, length, Option, Some, None, refl, sym, ap, ◌∙◌, arith, length-append}
use Rattle.std.specs.Prelude.{option_map, IsSomeAnd}
use Rattle.std.specs.Int.{w32, to_be_bytes}
use Rattle.mls_wire.specs.Limits.{vector_limit}
use Rattle.mls_wire.specs.Encoding.{◌⊕◌, number, vector}
use Rattle.mls_wire.specs.EncodingConcat.{joined, join}
use Rattle.mls_wire.specs.EncodedSizes.{some_size}
use Rattle.mls_wire.specs.LengthsExact.{length_short}
use Rattle.mls_wire.specs.IntegersExact.{wide32, number_made}
use Rattle.mls_nodes.specs.declared.leaf_source.LeafSource.{LeafSource}
use Rattle.mls_nodes.specs.declared.leaf_source.LeafSource.TheVariants.{KeyPackage, Update, Commit}
use Rattle.mls_nodes.specs.declared.leaf.LeafNode.{LeafNode}
use Rattle.mls_nodes.specs.Layout.{leaf, unsigned_leaf}
use Rattle.mls_nodes.specs.LeafNodeTBS.{tbs_suffix, leaf_tbs}
use Rattle.mls_nodes.specs.NodesExact.{leaf_signed}
use Rattle.mls_check.proofs.Inputs.{length_form-some}

-- an encoding of at most n bytes
abbrev HasAtMost : Option (List ℕ) → ℕ → Type 0
HasAtMost o n = IsSomeAnd o (λ t. length t ≤ n)

at_most : (o : Option (List ℕ)) (t : List ℕ) (n : ℕ) → o ≡ Some t → length t ≤ n → HasAtMost o n
at_most o t n is le = rw is le

at_most_text : (o : Option (List ℕ)) (n : ℕ) → HasAtMost o n → (t : List ℕ) × (o ≡ Some t) × (length t ≤ n)
at_most_text None n h = absurd h
at_most_text (Some t) n h = (t, refl, h)

-- it has a length
pub at_most_length : (o : Option (List ℕ)) (limit : ℕ) → HasAtMost o limit → (n : ℕ) × (option_map length o ≡ Some n) × (n ≤ limit)
at_most_length None limit h = absurd h
at_most_length (Some t) limit h = (length t, refl, h)

-- one encoding after the other
joint_at_most : (a b : Option (List ℕ)) (m n k : ℕ) → HasAtMost a m → HasAtMost b n → m + n ≤ k → HasAtMost (a ⊕ b) k
joint_at_most a b m n k h g le =
    let x = at_most_text a m h in
    let y = at_most_text b n g in
    at_most (a ⊕ b) (x.0 ++ y.0) k (join a b x.0 y.0 x.1 y.1) (omega (arith, length-append x.0 y.0, x.2, y.2, le))

number_at_most : (i : ℕ) → i < 2 ^ 32 → HasAtMost (number w32 i) 4
number_at_most i lt = at_most (number w32 i) (to_be_bytes w32 i) 4 (number_made w32 i lt) (omega (arith, wide32.len i))

vector_at_most : (s : List ℕ) → length s ≤ vector_limit → HasAtMost (vector s) (length s + 4)
unfolding vector
vector_at_most s le =
    let form = length_form-some (length s) le in
    at_most _ (form.0 ++ s) (length s + 4) (join _ _ form.0 s form.1 refl) (omega (arith, length-append form.0 s, length_short (length s) form.0 form.1))

-- what ties a leaf to its place
place_at_most : (group_id : List ℕ) (i : ℕ) → length group_id ≤ vector_limit → i < 2 ^ 32 → HasAtMost (vector group_id ⊕ number w32 i) (length group_id + 8)
place_at_most group_id i le lt = joint_at_most _ _ (length group_id + 4) 4 _ (vector_at_most group_id le) (number_at_most i lt) (omega arith)

suffix_at_most : (s : LeafSource) (group_id : List ℕ) (i : ℕ) → length group_id ≤ vector_limit → i < 2 ^ 32 → HasAtMost (tbs_suffix s group_id i) (length group_id + 8)
unfolding tbs_suffix
suffix_at_most (KeyPackage l) group_id i le lt = omega arith
suffix_at_most Update group_id i le lt = place_at_most group_id i le lt
suffix_at_most (Commit parent_hash) group_id i le lt = place_at_most group_id i le lt

-- a leaf node without its signature, by the length of the whole
unsigned_at_most : (x : LeafNode) (n : ℕ) → option_map length (leaf x) ≡ Some n → HasAtMost (unsigned_leaf x) n
unsigned_at_most x n long =
    let t = some_size (leaf x) n long in
    let parts = joined (unsigned_leaf x) (vector x.signature) t.0 (sym (leaf_signed x) ∙ t.1) in
    at_most (unsigned_leaf x) parts.0 n parts.2 (omega (arith, ap length parts.4, length-append parts.0 parts.1, t.2))

-- the LeafNodeTBS of a leaf at any index
pub tbs_at_most : (x : LeafNode) (group_id : List ℕ) (n limit : ℕ) → option_map length (leaf x) ≡ Some n → length group_id ≤ vector_limit → n + length group_id + 8 ≤ limit
    → (i : ℕ) → i < 2 ^ 32 → HasAtMost (leaf_tbs x group_id i) limit
unfolding leaf_tbs
tbs_at_most x group_id n limit long le small i lt =
    joint_at_most _ _ n (length group_id + 8) limit (unsigned_at_most x n long) (suffix_at_most x.source group_id i le lt) (omega (arith, small))
