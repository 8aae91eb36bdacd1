-- The slots of a hash cache that are right for a tree (RFC 9420, 7.8). Internal: no public contract uses this.
use Rattle.std.specs.Prelude.{◌≡◌, ℕ, ◌+◌, ◌*◌, List, [], ◌++◌, Option, Some, None, length, drop, slice_get}
use Rattle.mls_tree.specs.Tree.{Tree, leaf_count}
use Rattle.mls_tree.specs.Paths.{direct_path}
use Rattle.mls_tree.specs.HashCache.{hash_by, hash_at, emptied}
use Rattle.mls_tree.specs.declared.hash_kind.HashKind.{HashKind}
use Rattle.mls_tree.specs.declared.hash_kind.HashKind.TheVariants.{Sha256, Sha384, Sha512}

-- `hash_len kind` is the number of bytes of its hashes.
abbrev pub hash_len : HashKind → ℕ
hash_len Sha256 = 32
hash_len Sha384 = 48
hash_len Sha512 = 64

-- `AreSlots H t slots`: there is a slot for each node index, and each one that is filled has the tree hash of its
-- subtree.
pub record AreSlots (H : List ℕ → List ℕ) (t : Tree) (slots : List (Option (List ℕ))) : Type 0 where
  pub count : length slots + 1 ≡ 2 * leaf_count t
  pub each : (p : ℕ) (h : List ℕ) → slice_get slots p ≡ Some (Some h) → hash_at H t p ≡ Some h

-- `AreSlotsOf kind t slots`: these are the slots of a tree with a cache of this kind, or there are none if the tree has
-- no cache.
abbrev pub AreSlotsOf : Option HashKind → Tree → List (Option (List ℕ)) → Type 0
AreSlotsOf None t slots = slots ≡ []
AreSlotsOf (Some kind) t slots = AreSlots (hash_by kind) t slots

-- `joined_slots front w whole` is the slots `front` followed by those that `whole` has after them: the slots of a tree
-- that becomes the leftmost subtree of the tree `w`. The slots of the parents above that subtree are empty.
abbrev pub joined_slots : List (Option (List ℕ)) → Tree → List (Option (List ℕ)) → List (Option (List ℕ))
joined_slots front w whole = front ++ drop (length front) (emptied whole (direct_path 0 w 0))
