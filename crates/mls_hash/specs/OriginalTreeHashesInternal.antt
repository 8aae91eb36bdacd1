-- Steps of computing original tree hashes (RFC 9420, 7.9). Internal: no public contract uses this.
use Rattle.std.specs.Prelude.{◌≡◌, ◌⊎◌, ℕ, ◌/◌, List, Option, Some, None, slice_set}
use Rattle.mls_nodes.specs.declared.parent.ParentNode.{ParentNode}
use Rattle.mls_hash.specs.OriginalTreeHashes.{KnownHashes}

-- `ListsJust leaves p`: the parent is non-blank, and its unmerged leaves are those of the list.
abbrev pub ListsJust : List ℕ → Option ParentNode → Type 0
ListsJust leaves None = ⊥
ListsJust leaves (Some p) = leaves ≡ p.unmerged

-- `KeepsOwn node_index hash old new`: the hash of the parent at a node index was stored, or nothing changed.
abbrev pub KeepsOwn : ℕ → List ℕ → KnownHashes → KnownHashes → Type 0
KeepsOwn node_index hash old new = (new ≡ old) ⊎ (new ≡ record old { own = slice_set old.own (node_index / 2) (Some hash) })
