-- The hashes of a tree's slots as a list.
use Rattle.std.proofs.Common.{◌≡◌, ℕ, zero, suc, ◌+◌, ◌*◌, ◌<◌, ◌≤◌, List, [], ◌∷◌, length, Option, Some, None, refl, sym, ◌∙◌, arith}
use Rattle.std.specs.Prelude.{slice_get}
use Rattle.std.proofs.lemmas.Option.{slice_get_past}
use Rattle.mls_tree.specs.Tree.{Tree, leaf_count}
use Rattle.mls_tree.specs.HashCache.{hash_in}
use Rattle.mls_hash.specs.SubtreeHashes.{AreAllHashes}
use Rattle.mls_hash.specs.SubtreeHashesInternal.{AreCachedHashes, AreFilled, cached_hashes}
use Rattle.mls_hash.proofs.Filling.{all_listed}

-- a list of filled slots
filled_more : (count : ℕ) (hash : List ℕ) (slots : List (Option (List ℕ))) → AreFilled (suc count) (Some hash ∷ slots) → AreFilled count slots
filled_more count hash slots h = λ p lt. h (suc p) (omega arith)

pub length-cached : (count : ℕ) (slots : List (Option (List ℕ))) → AreFilled count slots → length (cached_hashes count slots) ≡ count
length-cached zero slots h = refl
length-cached (suc count) [] h = let bad = h 0 (omega arith) in absurd cc
length-cached (suc count) (None ∷ slots) h = let bad = h 0 (omega arith) in absurd cc
length-cached (suc count) (Some hash ∷ slots) h = omega (arith, length-cached count slots (filled_more count hash slots h))

-- each hash is that of its slot
pub get-cached : (count : ℕ) (slots : List (Option (List ℕ))) → AreFilled count slots → (p : ℕ) → p < count → hash_in (slice_get slots p) ≡ slice_get (cached_hashes count slots) p
get-cached zero slots h p lt = absurd (omega arith)
get-cached (suc count) [] h p lt = let bad = h 0 (omega arith) in absurd cc
get-cached (suc count) (None ∷ slots) h p lt = let bad = h 0 (omega arith) in absurd cc
get-cached (suc count) (Some hash ∷ slots) h zero lt = refl
get-cached (suc count) (Some hash ∷ slots) h (suc p) lt = get-cached count slots (filled_more count hash slots h) p (omega arith)

-- there is none after them
pub past-cached : (count : ℕ) (slots : List (Option (List ℕ))) → AreFilled count slots → (p : ℕ) → count ≤ p → slice_get (cached_hashes count slots) p ≡ None
past-cached count slots h p le = slice_get_past (cached_hashes count slots) p (omega (arith, length-cached count slots h))

-- they are the tree hashes of all subtrees
pub all_cached : (H : List ℕ → List ℕ) (t : Tree) (count : ℕ) (slots : List (Option (List ℕ))) → count + 1 ≡ 2 * leaf_count t → AreCachedHashes H t count slots → AreAllHashes H t (cached_hashes count slots)
all_cached H t count slots nodes h =
    let filled : AreFilled count slots = λ p lt. (h p lt).0 in
    let long = length-cached count slots filled in
    record {
      each = all_listed H t (cached_hashes count slots) (omega (arith, long, nodes)) (λ p lt. sym (get-cached count slots filled p (omega (arith, nodes))) ∙ (h p (omega (arith, nodes))).1);
      count = omega (arith, long, nodes);
    }
