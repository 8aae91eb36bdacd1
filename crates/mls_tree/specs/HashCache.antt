-- The hash cache of a tree (RFC 9420, 7.8): a slot for each node index, empty or with the tree hash of the subtree
-- there. `kind` names the hash function, and is `None` if the tree has no cache. `slots` are the slots. Used by
-- contracts.
use Rattle.std.specs.Prelude.{◌≡◌, ℕ, suc, ◌+◌, ◌*◌, ◌-◌, ◌==◌, ◌<◌, nat_lt, if◌then◌else◌, List, IsSome, [], ◌∷◌, ◌++◌, replicate, Option, Some, None, length, slice_get, slice_set, option_and_then}
use Rattle.sha2.specs.Sha256.{sha256}
use Rattle.sha2.specs.Sha512.{sha384, sha512}
use Rattle.mls_tree.specs.Tree.{Tree, leaf, branch, leaf_count, subtree_at}
use Rattle.mls_tree.specs.TreeHash.{tree_hash}
use Rattle.mls_tree.specs.declared.hash_kind.HashKind.{HashKind}
use Rattle.mls_tree.specs.declared.hash_kind.HashKind.TheVariants.{Sha256, Sha384, Sha512}

-- `hash_by kind` is the hash function of a kind.
unfoldable pub hash_by : HashKind → List ℕ → List ℕ
hash_by Sha256 message = sha256 message
hash_by Sha384 message = sha384 message
hash_by Sha512 message = sha512 message

-- `hash_at H t p` is the tree hash of the subtree at node index p, if there is one (RFC 9420, 7.8).
abbrev pub hash_at : (List ℕ → List ℕ) → Tree → ℕ → Option (List ℕ)
hash_at H t p = option_and_then (λ s. tree_hash H s.first s.tree) (subtree_at 0 t p)

-- `IsRightHash kind t p h`: `h` is the tree hash of the subtree at node index p.
abbrev pub IsRightHash : Option HashKind → Tree → ℕ → List ℕ → Type 0
IsRightHash None t p h = ⊥
IsRightHash (Some kind) t p h = hash_at (hash_by kind) t p ≡ Some h

-- `hash_in slot` is the hash in a slot, if there is one.
abbrev pub hash_in : Option (Option (List ℕ)) → Option (List ℕ)
hash_in None = None
hash_in (Some slot) = slot

-- `empty_count slots` is the number of empty slots.
abbrev pub empty_count : List (Option (List ℕ)) → ℕ
empty_count [] = 0
empty_count (None ∷ slots) = suc (empty_count slots)
empty_count (Some _ ∷ slots) = empty_count slots

-- `emptied slots node_indices` is the slots after those at these node indices were cleared.
abbrev pub emptied : List (Option (List ℕ)) → List ℕ → List (Option (List ℕ))
emptied slots [] = slots
emptied slots (p ∷ ps) = emptied (slice_set slots p None) ps

-- `parents_from first t p` is the node indices of the parent at p, if p is that of a parent, and of the parents above
-- it, the lowest first.
abbrev pub parents_from : ℕ → Tree → ℕ → List ℕ
parents_from first (leaf _) p = []
parents_from first (branch l _ r) p =
    (if p + 1 == 2 * (first + leaf_count l)
    then []
    else (if nat_lt (p + 1) (2 * (first + leaf_count l)) then parents_from first l p else parents_from (first + leaf_count l) r p))
    ++ (2 * (first + leaf_count l) - 1) ∷ []

-- `extended kind slots` is the slots of a tree after it was extended (RFC 9420, 7.7): the new nodes have empty ones.
abbrev pub extended : Option HashKind → List (Option (List ℕ)) → List (Option (List ℕ))
extended None slots = slots
extended (Some _) slots = slots ++ replicate (length slots + 1) None

-- `AreAllFilled t slots`: the slot of each node index is filled.
abbrev pub AreAllFilled : Tree → List (Option (List ℕ)) → Type 0
AreAllFilled t slots = (p : ℕ) → p + 1 < 2 * leaf_count t → IsSome (hash_in (slice_get slots p))
