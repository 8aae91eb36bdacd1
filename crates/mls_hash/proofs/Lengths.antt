-- How long hashes are.
use Rattle.std.proofs.Common.{◌≡◌, ℕ, ◌+◌, ◌≤◌, Bool, true, false, List, length, Option, Some, None, sym, ap, ◌∙◌, arith}
use Rattle.std.specs.Prelude.{nat_le, if◌then◌else◌, option_map, option_and_then}
use Rattle.std.proofs.lemmas.Option.{same_Some, none-some}
use Rattle.sha2.specs.Sha256.{sha256}
use Rattle.sha2.specs.Sha512.{sha384, sha512}
use Rattle.sha2.proofs.Facts256.{length-sha256}
use Rattle.sha2.proofs.Facts512.{length-sha384, length-sha512}
use Rattle.mls_nodes.specs.declared.parent.ParentNode.{ParentNode}
use Rattle.mls_tree.specs.Tree.{Tree, leaf, branch, leaf_count, Subtree, subtree_at}
use Rattle.mls_tree.specs.TreeHash.{tree_hash, hash_of_parent, leaf_tree_hash_input, parent_tree_hash_input}
use Rattle.mls_hash.specs.SuiteHash.{hash_of, hash_length}
use Rattle.mls_hash.specs.WithoutLeaves.{tree_hash_at}

-- a hash has as many bytes as the suite's hashes have
pub length-hash_of : (suite : ℕ) (message : List ℕ) → length (hash_of suite message) ≡ hash_length suite
unfolding hash_of hash_length
length-hash_of suite message = by_tests (nat_le suite 3) (nat_le suite 6)
  where
    by_tests : (first second : Bool) → length ((if first then sha256 else (if second then sha512 else sha384)) message) ≡ (if first then 32 else (if second then 64 else 48))
    by_tests true second = length-sha256 message
    by_tests false true = length-sha512 message
    by_tests false false = length-sha384 message

-- 64 at most
pub hash_length-limit : (suite : ℕ) → hash_length suite ≤ 64
unfolding hash_length
hash_length-limit suite = by_tests (nat_le suite 3) (nat_le suite 6)
  where
    by_tests : (first second : Bool) → (if first then 32 else (if second then 64 else 48)) ≤ 64
    by_tests true second = omega arith
    by_tests false true = omega arith
    by_tests false false = omega arith

-- the hash of a text, if there is one, has as many
pub length-hashed : (suite : ℕ) (text : Option (List ℕ)) (hash : List ℕ) → option_map (hash_of suite) text ≡ Some hash → length hash ≡ hash_length suite
length-hashed suite None hash e = absurd (none-some hash e)
length-hashed suite (Some message) hash e = ap length (sym (same_Some _ _ e)) ∙ length-hash_of suite message

length-parent_hash : (suite : ℕ) (p : Option ParentNode) (left right : Option (List ℕ)) (hash : List ℕ) → hash_of_parent (hash_of suite) p left right ≡ Some hash → length hash ≡ hash_length suite
length-parent_hash suite p None right hash e = absurd (none-some hash e)
length-parent_hash suite p (Some l) None hash e = absurd (none-some hash e)
length-parent_hash suite p (Some l) (Some r) hash e = length-hashed suite (parent_tree_hash_input p l r) hash e

-- so has a tree hash
pub length-tree_hash : (suite first : ℕ) (t : Tree) (hash : List ℕ) → tree_hash (hash_of suite) first t ≡ Some hash → length hash ≡ hash_length suite
length-tree_hash suite first (leaf x) hash e = length-hashed suite (leaf_tree_hash_input first x) hash e
length-tree_hash suite first (branch l p r) hash e =
    length-parent_hash suite p (tree_hash (hash_of suite) first l) (tree_hash (hash_of suite) (first + leaf_count l) r) hash e

-- and that of a subtree
pub length-tree_hash_at : (suite : ℕ) (t : Tree) (node_index : ℕ) (hash : List ℕ) → tree_hash_at (hash_of suite) t node_index ≡ Some hash → length hash ≡ hash_length suite
length-tree_hash_at suite t node_index hash = by_subtree (subtree_at 0 t node_index)
  where
    by_subtree : (o : Option Subtree) → option_and_then (λ (s : Subtree). tree_hash (hash_of suite) s.first s.tree) o ≡ Some hash → length hash ≡ hash_length suite
    by_subtree None e = absurd (none-some hash e)
    by_subtree (Some s) e = length-tree_hash suite s.first s.tree hash e
