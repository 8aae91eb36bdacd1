-- Which slots of the hash cache of a tree are filled. Internal: no public contract uses this.
use Rattle.std.specs.Prelude.{ℕ, List, Option, IsSome, slice_get}
use Rattle.mls_tree.specs.HashCache.{hash_in}

-- ---- internal

-- `HasCachedHash slots p`: the cache slot of node index p is filled.
abbrev pub HasCachedHash : List (Option (List ℕ)) → ℕ → Type 0
HasCachedHash slots p = IsSome (hash_in (slice_get slots p))

-- `FilledStay old new`: no filled slot was cleared.
abbrev pub FilledStay : List (Option (List ℕ)) → List (Option (List ℕ)) → Type 0
FilledStay old new = (p : ℕ) → HasCachedHash old p → HasCachedHash new p
