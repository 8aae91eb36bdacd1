-- How long the hashes of a kind are.
use Rattle.std.proofs.Common.{◌≡◌, ℕ, ◌+◌, List, length, Option, Some, None, sym, ap, ◌∙◌}
use Rattle.std.specs.Prelude.{option_map, option_and_then}
use Rattle.std.proofs.lemmas.Option.{same_Some, none-some}
use Rattle.sha2.proofs.Facts256.{length-sha256}
use Rattle.sha2.proofs.Facts512.{length-sha384, length-sha512}
use Rattle.mls_nodes.specs.declared.parent.ParentNode.{ParentNode}
use Rattle.mls_tree.specs.Tree.{Tree, leaf, branch, leaf_count, Subtree, subtree_at}
use Rattle.mls_tree.specs.TreeHash.{tree_hash, hash_of_parent, leaf_tree_hash_input, parent_tree_hash_input}
use Rattle.mls_tree.specs.HashCache.{hash_by, hash_at}
use Rattle.mls_tree.specs.HashCacheInternal.{hash_len}
use Rattle.mls_tree.specs.declared.hash_kind.HashKind.{HashKind}
use Rattle.mls_tree.specs.declared.hash_kind.HashKind.TheVariants.{Sha256, Sha384, Sha512}

-- a hash has as many bytes as the values of its function
length-hash_by : (kind : HashKind) (message : List ℕ) → length (hash_by kind message) ≡ hash_len kind
unfolding hash_by
length-hash_by Sha256 message = length-sha256 message
length-hash_by Sha384 message = length-sha384 message
length-hash_by Sha512 message = length-sha512 message

-- so has that of a text, if there is one
length-hashed : (kind : HashKind) (text : Option (List ℕ)) (hash : List ℕ) → option_map (hash_by kind) text ≡ Some hash → length hash ≡ hash_len kind
length-hashed kind None hash e = absurd (none-some hash e)
length-hashed kind (Some message) hash e = ap length (sym (same_Some _ _ e)) ∙ length-hash_by kind message

length-parent_hash : (kind : HashKind) (p : Option ParentNode) (left right : Option (List ℕ)) (hash : List ℕ) → hash_of_parent (hash_by kind) p left right ≡ Some hash → length hash ≡ hash_len kind
length-parent_hash kind p None right hash e = absurd (none-some hash e)
length-parent_hash kind p (Some l) None hash e = absurd (none-some hash e)
length-parent_hash kind p (Some l) (Some r) hash e = length-hashed kind (parent_tree_hash_input p l r) hash e

length-tree_hash : (kind : HashKind) (first : ℕ) (t : Tree) (hash : List ℕ) → tree_hash (hash_by kind) first t ≡ Some hash → length hash ≡ hash_len kind
length-tree_hash kind first (leaf x) hash e = length-hashed kind (leaf_tree_hash_input first x) hash e
length-tree_hash kind first (branch l p r) hash e =
    length-parent_hash kind p (tree_hash (hash_by kind) first l) (tree_hash (hash_by kind) (first + leaf_count l) r) hash e

-- and the tree hash of a subtree
pub length-hash_at : (kind : HashKind) (t : Tree) (node_index : ℕ) (hash : List ℕ) → hash_at (hash_by kind) t node_index ≡ Some hash → length hash ≡ hash_len kind
length-hash_at kind t node_index hash = by_subtree (subtree_at 0 t node_index)
  where
    by_subtree : (o : Option Subtree) → option_and_then (λ (s : Subtree). tree_hash (hash_by kind) s.first s.tree) o ≡ Some hash → length hash ≡ hash_len kind
    by_subtree None e = absurd (none-some hash e)
    by_subtree (Some s) e = length-tree_hash kind s.first s.tree hash e
