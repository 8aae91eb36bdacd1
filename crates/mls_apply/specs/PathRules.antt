-- The rules for the UpdatePath of a commit (RFC 9420, 7.3, 7.6, 7.9.2 and 12.4.2), in the tree after the commit's
-- proposals. `i` is the committer's leaf, `g` that tree with the indices of the added leaves, H a hash function. Used
-- by contracts.
use Rattle.std.specs.Prelude.{ℕ, ◌+◌, ◌*◌, ◌==◌, nat_lt, ◌&&◌, not, if◌then◌else◌, List, [], ◌∷◌, ◌++◌, length, map, filter, Bool, true, false, Option, Some, None}
use Rattle.std.specs.List.{list_any}
use Rattle.std.specs.Str.{bytes_eq}
use Rattle.mls_nodes.specs.declared.leaf_source.LeafSource.{LeafSource}
use Rattle.mls_nodes.specs.declared.leaf_source.LeafSource.TheVariants as sources
use Rattle.mls_msgs.specs.declared.commit.PathNode.{PathNode}
use Rattle.mls_msgs.specs.declared.commit.UpdatePath.{UpdatePath}
use Rattle.mls_tree.specs.Tree.{Tree, leaf, branch, leaf_count}
use Rattle.mls_tree.specs.Paths.{resolution, filtered_direct_path}
use Rattle.mls_check.specs.DistinctKeys.{are_distinct, has_key, tree_keys}
use Rattle.mls_apply.specs.RuleLists.{Rule, rule, first_failing}
use Rattle.mls_apply.specs.ProposalRules.{is_from_commit}
use Rattle.mls_apply.specs.AppliedList.{AppliedTree}
use Rattle.mls_apply.specs.MergePath.{expected_hashes}
use Rattle.mls_apply.specs.declared.refusal.Refusal.{Refusal}
use Rattle.mls_apply.specs.declared.refusal.Refusal.TheVariants.{SenderNotMember, PathLength, PathSource, PathKeyUsed, CiphertextCount, PathParentHash}

-- `node_keys path` is the keys of a path's nodes, the lowest first.
abbrev pub node_keys : UpdatePath → List (List ℕ)
node_keys path = map (λ n. n.encryption_key) path.nodes

-- `path_keys path` is all keys of a path, the leaf's first.
abbrev pub path_keys : UpdatePath → List (List ℕ)
path_keys path = path.leaf_node.encryption_key ∷ node_keys path

-- `has_new_keys path t`: no key of the path is in the tree, or twice in the path (RFC 9420, 12.4.2).
unfoldable pub has_new_keys : UpdatePath → Tree → Bool
has_new_keys path t = are_distinct (path_keys path) && not (list_any (has_key (tree_keys t)) (path_keys path))

-- `append_non_empty others r` is `others` followed by the resolution `r`, if it is not empty.
abbrev pub append_non_empty : List (List ℕ) → List ℕ → List (List ℕ)
append_non_empty others [] = others
append_non_empty others (p ∷ ps) = others ++ (p ∷ ps) ∷ []

-- `copath_resolutions leaves first t i` is the resolutions of the children on the copath of leaf i that are not empty,
-- the lowest first (RFC 9420, 4.1.2).
abbrev pub copath_resolutions : ℕ → ℕ → Tree → ℕ → List (List ℕ)
copath_resolutions leaves first (leaf _) i = []
copath_resolutions leaves first (branch l _ r) i =
    if nat_lt i (first + leaf_count l)
    then append_non_empty (copath_resolutions leaves first l i) (resolution leaves (first + leaf_count l) r)
    else append_non_empty (copath_resolutions leaves (first + leaf_count l) r i) (resolution leaves first l)

-- `without_added added node_indices` is the node indices of a resolution without those of added leaves (RFC 9420, 7.6).
abbrev pub without_added : List ℕ → List ℕ → List ℕ
without_added added node_indices = filter (λ p. not (list_any (λ j. p == 2 * j) added)) node_indices

-- `have_counts added resolutions nodes`: each node of a path has a ciphertext for each node of its resolution, without
-- the leaves that the commit adds (RFC 9420, 7.6).
abbrev pub have_counts : List ℕ → List (List ℕ) → List PathNode → Bool
have_counts added [] [] = true
have_counts added [] (n ∷ ns) = false
have_counts added (r ∷ rs) [] = false
have_counts added (r ∷ rs) (n ∷ ns) =
    length n.ciphertexts == length (without_added added r) && have_counts added rs ns

-- `has_ciphertexts path g i`: each node of the path has the right number of ciphertexts (RFC 9420, 7.6).
unfoldable pub has_ciphertexts : UpdatePath → AppliedTree → ℕ → Bool
has_ciphertexts path g i = have_counts g.added (copath_resolutions (leaf_count g.tree) 0 g.tree i) path.nodes

-- `has_first_parent_hash source hashes`: the leaf node is of source commit, and its parent hash is the first of these.
abbrev pub has_first_parent_hash : LeafSource → Option (List (List ℕ)) → Bool
has_first_parent_hash source None = false
has_first_parent_hash source (Some []) = false
has_first_parent_hash (sources.KeyPackage _) (Some (h ∷ hs)) = false
has_first_parent_hash sources.Update (Some (h ∷ hs)) = false
has_first_parent_hash (sources.Commit hash) (Some (h ∷ hs)) = bytes_eq hash h

-- `has_expected_hash H path t i`: the path's leaf node has the expected parent hash (RFC 9420, 7.9.2).
unfoldable pub has_expected_hash : (List ℕ → List ℕ) → UpdatePath → Tree → ℕ → Bool
has_expected_hash H path t i = has_first_parent_hash path.leaf_node.source (expected_hashes H t i (node_keys path))

-- `path_length t i` is the number of parents of the filtered direct path of leaf i (RFC 9420, 4.1.2).
abbrev pub path_length : Tree → ℕ → ℕ
path_length t i = length (filtered_direct_path (leaf_count t) 0 t i)

-- `has_path_length path t i`: the path has a node for each parent of the filtered direct path (RFC 9420, 7.6).
unfoldable pub has_path_length : UpdatePath → Tree → ℕ → Bool
has_path_length path t i = length path.nodes == path_length t i

-- `path_rules H g i path` is the rules for a path, in their order.
abbrev pub path_rules : (List ℕ → List ℕ) → AppliedTree → ℕ → UpdatePath → List (Rule Refusal)
path_rules H g i path =
    rule PathLength (has_path_length path g.tree i) ∷
    rule PathSource (is_from_commit path.leaf_node.source) ∷
    rule PathKeyUsed (has_new_keys path g.tree) ∷
    rule CiphertextCount (has_ciphertexts path g i) ∷
    rule PathParentHash (has_expected_hash H path g.tree i) ∷ []

-- `path_refusal H g i path` is the refusal of the first of them that fails, or SenderNotMember if the tree has no leaf i. The leaf
-- of a client that joins with a path is blank (12.4.3.2).
unfoldable pub path_refusal : (List ℕ → List ℕ) → AppliedTree → ℕ → UpdatePath → Option Refusal
path_refusal H g i path = first_failing (rule SenderNotMember (nat_lt i (leaf_count g.tree)) ∷ path_rules H g i path)

-- `keys_refusal t i keys` is the refusal of keys for a path of leaf i: SenderNotMember if the tree has no leaf i, PathLength if
-- their number is wrong.
unfoldable pub keys_refusal : Tree → ℕ → List (List ℕ) → Option Refusal
keys_refusal t i keys =
    first_failing (rule SenderNotMember (nat_lt i (leaf_count t)) ∷ rule PathLength (length keys == path_length t i) ∷ [])
