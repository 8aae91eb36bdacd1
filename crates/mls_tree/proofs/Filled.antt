-- The entries that a ratchet tree is filled up to are the listing of a tree.
use Rattle.std.proofs.Common.{◌≡◌, ℕ, zero, suc, ◌+◌, ◌*◌, ◌-◌, ◌%◌, ◌^◌, ◌≤◌, List, [], ◌∷◌, ◌++◌, length, map, replicate, Bool, true, false, ◌&&◌, Option, Some, None, refl, sym, ap, subst, ◌∙◌, inl, inr, arith, option_map}
use Rattle.std.specs.Prelude.{slice_get}
use Rattle.std.proofs.lemmas.Bool.{cases_lt, eqb-true, leb-true}
use Rattle.std.proofs.lemmas.List.{length-map}
use Rattle.std.proofs.lemmas.Option.{slice_get-map}
use Rattle.std.proofs.Math.Pow.{pow_mono}
use Rattle.std.proofs.Math.Nat.{pow-suc}
use Rattle.mls_wire.specs.Encoding.{list, optional}
use Rattle.mls_wire.specs.OptionBind.{allowed}
use Rattle.mls_nodes.specs.declared.node.Node.{Node}
use Rattle.mls_nodes.specs.declared.node.Node.TheVariants.{Leaf, Parent}
use Rattle.mls_nodes.specs.NodeModel.{NodeValue}
use Rattle.mls_nodes.specs.NodeValues.{entry_value}
use Rattle.mls_nodes.specs.Layout.{node}
use Rattle.mls_nodes.specs.RatchetTreeEncoding.{ratchet_tree, filled, full_size, has_valid_layout, ends_non_blank, fit_from, fits_at}
use Rattle.mls_nodes.specs.FilledTree.{filled-full, filled-least}
use Rattle.mls_tree.specs.TreeInternal.{leaves_at}
use Rattle.mls_tree.specs.NodeArray.{FitsNodeIndex, IsArrayOf, ratchet_tree_in}
use Rattle.mls_tree.specs.TreeSizes.{IsListing}
use Rattle.mls_tree.proofs.Arrays.{listing-array}
use Rattle.mls_tree.proofs.Listings.{IsArrayOf-fits}
use Rattle.mls_tree.proofs.Numbers.{leaves_at-pow}

both-left : (a b : Bool) → a && b ≡ true → a ≡ true
both-left true b e = refl
both-left false b e = e

both-right : (a b : Bool) → a && b ≡ true → b ≡ true
both-right true b e = e
both-right false b e = absurd cc

both : (a b : Bool) → a ≡ true → b ≡ true → a && b ≡ true
both true b p q = q
both false b p q = p

-- blanks may be anywhere
fit_from-blanks : (node_index n : ℕ) → fit_from node_index (replicate n None) ≡ true
fit_from-blanks node_index zero = refl
fit_from-blanks node_index (suc n) = fit_from-blanks (node_index + 1) n

-- so entries that may be at their node indices may also be there if blanks are after them
fit_from-more : (node_index : ℕ) (xs : List (Option NodeValue)) (n : ℕ) → fit_from node_index xs ≡ true → fit_from node_index (xs ++ replicate n None) ≡ true
fit_from-more node_index [] n h = fit_from-blanks node_index n
fit_from-more node_index (x ∷ xs) n h =
    both (fits_at node_index x) (fit_from (node_index + 1) (xs ++ replicate n None)) (both-left (fits_at node_index x) _ h)
    (fit_from-more (node_index + 1) xs n (both-right (fits_at node_index x) _ h))

-- an entry, if there is one, may be at the node index
abbrev MayStand : ℕ → Option (Option NodeValue) → Type 0
MayStand node_index None = Unit {0}
MayStand node_index (Some x) = fits_at node_index x ≡ true

MayStand-at : (node_index : ℕ) (xs : List (Option NodeValue)) (p : ℕ) → fit_from node_index xs ≡ true → MayStand (node_index + p) (slice_get xs p)
MayStand-at node_index [] p h = tt
MayStand-at node_index (x ∷ xs) zero h = subst (λ k. fits_at k x ≡ true) (let e : node_index ≡ node_index + 0 = omega arith in e) (both-left (fits_at node_index x) _ h)
MayStand-at node_index (x ∷ xs) (suc p) h =
    subst (λ k. MayStand k (slice_get xs p)) (let e : node_index + 1 + p ≡ node_index + suc p = omega arith in e)
    (MayStand-at (node_index + 1) xs p (both-right (fits_at node_index x) _ h))

-- such an entry of an array is a leaf at an even node index and a parent at an odd one
MayStand-fits : (p : ℕ) (o : Option (Option Node)) → MayStand p (option_map entry_value o) → FitsNodeIndex p o
MayStand-fits p None h = record { even = λ z. tt; odd = λ z. tt }
MayStand-fits p (Some None) h = record { even = λ z. tt; odd = λ z. tt }
MayStand-fits p (Some (Some (Leaf b))) h = record { even = λ z. tt; odd = λ z. z (eqb-true (p % 2) 0 h) }
MayStand-fits p (Some (Some (Parent b))) h = record { even = λ z. let one : p % 2 ≡ 1 = eqb-true (p % 2) 1 h in absurd (omega arith); odd = λ z. tt }

-- a full tree of entries that may all be at their node indices is an array of a tree
array : (entries : List (Option Node)) (d : ℕ) → fit_from 0 (map entry_value entries) ≡ true → length entries + 1 ≡ 2 * leaves_at d → IsArrayOf entries d
array entries d stand long =
    IsArrayOf-fits entries entries d refl long
    (λ p.
    let at : MayStand p (slice_get (map entry_value entries) p) =
    subst (λ k. MayStand k (slice_get (map entry_value entries) p)) (let e : 0 + p ≡ p = omega arith in e) (MayStand-at 0 (map entry_value entries) p stand) in
    MayStand-fits p (slice_get entries p) (subst (λ o. MayStand p o) (slice_get-map entry_value entries p) at))

-- a full tree of at most 2,097,151 entries has at most 20 levels of parents
low_full : (d n : ℕ) → n ≡ 2 ^ (d + 1) - 1 → n ≤ 2097151 → d ≤ 20
low_full d n e le =
    elim (cases_lt d 21) [
      | inl lt ↦ omega arith
      | inr ge ↦ let high : 2 ^ 22 ≤ 2 ^ (d + 1) = pow_mono {i = 22} {j = d + 1} (omega arith) in absurd (omega arith)
    ]

-- an array whose entries fill up those that some bytes encode (RFC 9420, 12.4.3.3) is the listing of a tree
pub filled_listing : (nodes : List (Option NodeValue)) (bytes : List ℕ) (entries : List (Option Node))
    → ratchet_tree nodes ≡ Some bytes → map entry_value entries ≡ filled nodes → IsListing (map entry_value entries)
unfolding ratchet_tree
filled_listing nodes bytes entries encoded fill =
    let a = (allowed (has_valid_layout nodes && ends_non_blank nodes) (list (optional node) nodes) bytes encoded).0 in
    let well_laid_out : has_valid_layout nodes ≡ true = both-left (has_valid_layout nodes) (ends_non_blank nodes) a in
    let stand : fit_from 0 nodes ≡ true = both-left (fit_from 0 nodes) _ well_laid_out in
    let few : length nodes ≤ 2097151 = leb-true (length nodes) 2097151 (both-right (fit_from 0 nodes) _ well_laid_out) in
    let full = filled-full nodes in
    let small : length (filled nodes) ≤ 2097151 = filled-least nodes 20 few in
    let low : full.0 ≤ 20 = low_full full.0 (length (filled nodes)) full.1 small in
    let count : length entries ≡ length (filled nodes) = sym (length-map entries entry_value) ∙ ap length fill in
    let some : 1 ≤ 2 ^ (full.0 + 1) = pow_mono {i = 0} {j = full.0 + 1} (omega arith) in
    let twice : 2 ^ (full.0 + 1) ≡ 2 ^ full.0 * 2 = ap (λ (n : ℕ). 2 ^ n) (omega arith) ∙ pow-suc 2 full.0 in
    let long : length entries + 1 ≡ 2 * leaves_at full.0 = omega (arith, count, full.1, some, twice, leaves_at-pow full.0) in
    let ok = array entries full.0 (ap (fit_from 0) fill ∙ fit_from-more 0 nodes (full_size (length nodes) - length nodes) stand) long in
    (ratchet_tree_in entries full.0 low, sym (listing-array entries full.0 ok))
