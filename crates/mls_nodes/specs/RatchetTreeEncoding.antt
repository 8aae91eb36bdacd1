-- The encoding of a ratchet_tree (RFC 9420, 12.4.3.3), and how it is extended to a full tree (Appendix C). Used by
-- contracts.
use Rattle.std.specs.Prelude.{◌≡◌, ℕ, take, zero, suc, ◌+◌, ◌-◌, ◌*◌, ◌%◌, List, [], ◌∷◌, ◌++◌, length, replicate, Bool, true, false, ◌&&◌, Option, Some, None, nat_eq, nat_le, slice_get, if◌then◌else◌}
use Rattle.mls_wire.specs.Encoding.{list, optional}
use Rattle.mls_nodes.specs.Limits.{entry_limit}
use Rattle.mls_nodes.specs.NodeModel.{NodeValue, leaf_node, parent_node}
use Rattle.mls_nodes.specs.Layout.{node}

-- `fits_at node_index n`: the entry may be at this node index. Leaves are at even ones, parents at odd ones (RFC 9420,
-- Appendix C).
abbrev pub fits_at : ℕ → Option NodeValue → Bool
fits_at node_index None = true
fits_at node_index (Some (leaf_node l)) = nat_eq (node_index % 2) 0
fits_at node_index (Some (parent_node p)) = nat_eq (node_index % 2) 1

-- `fit_from node_index nodes`: each entry may be at its node index, the first one at `node_index`.
abbrev pub fit_from : ℕ → List (Option NodeValue) → Bool
fit_from node_index [] = true
fit_from node_index (x ∷ xs) = fits_at node_index x && fit_from (node_index + 1) xs

-- `is_non_blank n`: there is an entry, and it is non-blank.
abbrev pub is_non_blank : Option (Option NodeValue) → Bool
is_non_blank (Some (Some n)) = true
is_non_blank (Some None) = false
is_non_blank None = false

-- `ends_non_blank nodes`: there is a last entry, and it is non-blank (RFC 9420, 12.4.3.3).
abbrev pub ends_non_blank : List (Option NodeValue) → Bool
ends_non_blank nodes = is_non_blank (slice_get nodes (length nodes - 1))

-- `has_valid_layout nodes`: each entry may be at its node index, and there are no more than a tree of 1,048,576 leaves
-- has.
abbrev pub has_valid_layout : List (Option NodeValue) → Bool
has_valid_layout nodes = fit_from 0 nodes && nat_le (length nodes) entry_limit

-- `ratchet_tree nodes` is the encoding of the entries of a tree up to the last non-blank one, each at a node index of
-- its kind (RFC 9420, 12.4.3.3).
unfoldable pub ratchet_tree : List (Option NodeValue) → Option (List ℕ)
ratchet_tree nodes = if has_valid_layout nodes && ends_non_blank nodes then list (optional node) nodes else None

-- `IsFirstMisplaced nodes node_index`: `node_index` is the first node index whose entry may not be there.
abbrev pub IsFirstMisplaced : List (Option NodeValue) → ℕ → Type 0
IsFirstMisplaced nodes node_index = (fit_from 0 (take node_index nodes) ≡ true) × (x : Option NodeValue) × (slice_get nodes node_index ≡ Some x) × (fits_at node_index x ≡ false)

-- `prepend_trimmed x xs` is `xs` with `x` in front. A blank entry in front of nothing is left out.
abbrev pub prepend_trimmed : Option NodeValue → List (Option NodeValue) → List (Option NodeValue)
prepend_trimmed (Some n) xs = Some n ∷ xs
prepend_trimmed None (x ∷ xs) = None ∷ x ∷ xs
prepend_trimmed None [] = []

-- `trimmed nodes` is the entries without the blank ones at the end (RFC 9420, 12.4.3.3).
abbrev pub trimmed : List (Option NodeValue) → List (Option NodeValue)
trimmed [] = []
trimmed (x ∷ xs) = prepend_trimmed x (trimmed xs)

-- `full_from steps size count` is the first of size, 2 * size + 1, .. that is not below `count`, in at most this many
-- steps.
abbrev pub full_from : ℕ → ℕ → ℕ → ℕ
full_from zero size count = size
full_from (suc steps) size count = if nat_le count size then size else full_from steps (2 * size + 1) count

-- `full_size count` is the number of nodes of the least full tree that has at least `count`: the first of 1, 3, 7, ..
-- (RFC 9420, Appendix C).
unfoldable pub full_size : ℕ → ℕ
full_size count = full_from count 1 count

-- `filled nodes` is the entries followed by blank ones, as many as a full tree has (RFC 9420, Appendix C and 12.4.3.3).
abbrev pub filled : List (Option NodeValue) → List (Option NodeValue)
filled nodes = nodes ++ replicate (full_size (length nodes) - length nodes) None
