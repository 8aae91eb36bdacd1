-- The model of a tree's optional cache of tree hashes (RFC 9420, 7.8). Internal: no public contract uses this.
use Rattle.std.specs.Prelude.{◌≡◌, ℕ, ◌+◌, ◌*◌, ◌<◌, List, [], Option, Some, None, length}
use Rattle.mls_tree.specs.TreeInternal.{leaves_at}
use Rattle.mls_tree.specs.HashListsInternal.{CanExtend}
use Rattle.mls_tree.specs.declared.hash_kind.HashKind.{HashKind}
use Rattle.mls_tree.specs.declared.hash_cache.Slots.{Slots}

-- `kind_in slots` is the kind of the cache, if there is one.
abbrev pub kind_in : Option Slots → Option HashKind
kind_in None = None
kind_in (Some c) = Some c.kind

-- `slots_in slots` is the list of its slots.
abbrev pub slots_in : Option Slots → List (Option (List ℕ))
slots_in None = []
slots_in (Some c) = c.hashes.items

-- `IsOfHeight h slots`: there are as many slots as nodes in a tree of height h.
abbrev pub IsOfHeight : ℕ → Option Slots → Type 0
IsOfHeight h None = Unit {0}
IsOfHeight h (Some c) = length c.hashes.items + 1 ≡ 2 * leaves_at h

-- `HasCapacity slots`: there is capacity for the slots of a tree twice as large.
abbrev pub HasCapacity : Option Slots → Type 0
HasCapacity None = Unit {0}
HasCapacity (Some c) = CanExtend c.hashes

-- `HasMoreThan count slots`: if there is a cache, it has more than `count` slots.
abbrev pub HasMoreThan : ℕ → Option Slots → Type 0
HasMoreThan n None = Unit {0}
HasMoreThan n (Some c) = n < length c.hashes.items

-- `AreFewer slots whole`: if there are both caches, `whole` has more slots than `slots`.
abbrev pub AreFewer : Option Slots → Option Slots → Type 0
AreFewer None whole = Unit {0}
AreFewer (Some c) whole = HasMoreThan (length c.hashes.items) whole
