-- Where a path has as many keys as it has to have, there are parent hashes that it has to carry; and where it carries the
-- hash expected, there is a tree with it.
use Rattle.std.proofs.Common.{◌≡◌, ◌∙◌, ℕ, ◌+◌, ◌*◌, ◌-◌, List, [], ◌∷◌, ◌++◌, length, Bool, true, false, Option, Some, None, IsSome, refl, sym, ap, subst, arith, length-append}
use Rattle.std.specs.Prelude.{if◌then◌else◌, nat_lt, All, reverse, option_map, option_and_then}
use Rattle.std.proofs.lemmas.Bool.{false≢true}
use Rattle.std.proofs.lemmas.List.Elements.{All-head, All-tail}
use Rattle.std.proofs.lemmas.Option.{none-some, same_Some}
use Rattle.mls_wire.specs.Encoding.{◌⊕◌, vector}
use Rattle.mls_nodes.specs.declared.leaf.LeafNode.{LeafNode}
use Rattle.mls_nodes.specs.declared.leaf_source.LeafSource.{LeafSource}
use Rattle.mls_nodes.specs.declared.parent.ParentNode.{ParentNode}
use Rattle.mls_msgs.specs.declared.commit.UpdatePath.{UpdatePath}
use Rattle.mls_tree.specs.Tree.{Tree, leaf, branch, leaf_count}
use Rattle.mls_tree.specs.TreeHash.{tree_hash, hash_of_parent, leaf_tree_hash_input, parent_tree_hash_input as hashed_parent}
use Rattle.mls_tree.specs.Paths.{resolution, filtered_direct_path, where_resolved}
use Rattle.mls_hash.specs.ParentHash.{parent_hash_input}
use Rattle.mls_apply.specs.MergePath.{PathStep, path_step_at, path_step, path_parent, path_hash, merged_from, merged, hashes_from, expected_hashes, append_parent_hash}
use Rattle.mls_apply.specs.PathRules.{has_first_parent_hash, has_expected_hash, node_keys}
use Rattle.mls_apply.proofs.Encodings.{taken_out, mapped, both_encoded, parts_some}

-- ---- the hashes expected

-- keys that have spellings
abbrev pub AreKeys : List (List ℕ) → Type 0
AreKeys keys = All (λ k. IsSome (vector k)) keys

module _ (H : List ℕ → List ℕ) (short : (m : List ℕ) → IsSome (vector (H m))) where
  -- a tree hash has a spelling
  mapped_written : (o : Option (List ℕ)) (h : List ℕ) → option_map H o ≡ Some h → IsSome (vector h)
  mapped_written None h e = absurd (none-some h e)
  mapped_written (Some x) h e = subst (λ (y : List ℕ). IsSome (vector y)) (same_Some (H x) h e) (short x)

  parent_written : (p : Option ParentNode) (a b : Option (List ℕ)) (h : List ℕ) → hash_of_parent H p a b ≡ Some h → IsSome (vector h)
  parent_written p None b h e = absurd (none-some h e)
  parent_written p (Some x) None h e = absurd (none-some h e)
  parent_written p (Some x) (Some y) h e = mapped_written (hashed_parent p x y) h e

  hash_written : (first : ℕ) (t : Tree) (h : List ℕ) → tree_hash H first t ≡ Some h → IsSome (vector h)
  hash_written first (leaf x) h e = mapped_written (leaf_tree_hash_input first x) h e
  hash_written first (branch l p r) h e = parent_written p (tree_hash H first l) (tree_hash H (first + leaf_count l) r) h e

  -- a new parent has a parent hash, which has a spelling
  record IsHashed (o : Option (List ℕ)) : Type 0 where
    hash : List ℕ
    is : o ≡ Some hash
    written : IsSome (vector hash)

  path_hash_there : (key hash : List ℕ) (first : ℕ) (away : Tree) → IsSome (vector key) → IsSome (vector hash) → IsSome (tree_hash H first away)
      → IsHashed (path_hash H (path_parent key hash) first away)
  path_hash_there key hash first away k l there =
      let original = taken_out (tree_hash H first away) there in
      let input = taken_out (parent_hash_input (path_parent key hash) original.0)
      (both_encoded (vector key) (vector hash ⊕ vector original.0) k (both_encoded (vector hash) (vector original.0) l (hash_written first away original.0 original.1))) in
      record {
        hash = H input.0;
        is =
            ap (option_and_then (λ (o : List ℕ). option_map H (parent_hash_input (path_parent key hash) o))) original.1
            ∙ ap (option_map H) input.1;
        written = short input.0;
      }

  -- something is handed down, with so many keys
  record IsHandedDown (o : Option PathStep) (left : ℕ) : Type 0 where
    next : PathStep
    is : o ≡ Some next
    written : IsSome (vector next.hash)
    keys : AreKeys next.keys
    count : length next.keys ≡ left

  handed_there : (res : List ℕ) (first : ℕ) (away : Tree) (hash : List ℕ) (keys : List (List ℕ)) (left node_index : ℕ) → IsSome (tree_hash H first away) → IsSome (vector hash)
      → AreKeys keys → length keys ≡ left + length (where_resolved res node_index) → IsHandedDown (path_step H res first away hash keys) left
  handed_there [] first away hash keys left node_index there l ks long =
      record { next = record { parent = None; hash = hash; keys = keys }; is = refl; written = l; keys = ks; count = omega (arith, long) }
  handed_there (p ∷ ps) first away hash [] left node_index there l ks long = absurd (omega (arith, long))
  handed_there (p ∷ ps) first away hash (key ∷ keys) left node_index there l ks long =
      let new = path_hash_there key hash first away (All-head (λ k. IsSome (vector k)) key keys ks) l there in
      record {
        next = record { parent = Some (path_parent key hash); hash = new.hash; keys = keys };
        is = ap (option_map (λ (h : List ℕ). record { parent = Some (path_parent key hash); hash = h; keys = keys })) new.is;
        written = new.written;
        keys = All-tail (λ k. IsSome (vector k)) key keys ks;
        count = omega (arith, long);
      }

  module _ (leaves i : ℕ) where
    -- what one half gives, behind a parent above it
    through : {X : Type 0} (make : PathStep → List (List ℕ) → X) (below : PathStep → Option (List (List ℕ))) (o : Option PathStep) (next : PathStep) → o ≡ Some next
        → IsSome (below next) → IsSome (option_and_then (λ n. option_map (make n) (below n)) o)
    through {X} make below o next e h =
        subst (λ (p : Option PathStep). IsSome (option_and_then (λ n. option_map (make n) (below n)) p)) (sym e) (mapped (make next) (below next) h)

    pub hashes_there : (first : ℕ) (t : Tree) (hash : List ℕ) (keys : List (List ℕ)) → IsSome (tree_hash H first t) → IsSome (vector hash) → AreKeys keys
        → length keys ≡ length (filtered_direct_path leaves first t i) → IsSome (hashes_from H leaves first t i hash keys)
    hashes_there first (leaf y) hash [] there l ks long = refl
    hashes_there first (leaf y) hash (_ ∷ _) there l ks long = absurd (omega (arith, long))
    hashes_there first (branch a p b) hash keys there l ks long =
        let children = parts_some H p (tree_hash H first a) (tree_hash H (first + leaf_count a) b) there in
        go children.0 children.2 (nat_lt i (first + leaf_count a)) (λ m g. hashes_there first a m g children.0) (λ m g. hashes_there (first + leaf_count a) b m g children.2) long
      where
        go : IsSome (tree_hash H first a) → IsSome (tree_hash H (first + leaf_count a) b) → (c : Bool)
            → ((m : List ℕ) (g : List (List ℕ)) → IsSome (vector m) → AreKeys g → length g ≡ length (filtered_direct_path leaves first a i) → IsSome (hashes_from H leaves first a i m g))
            → ((m : List ℕ) (g : List (List ℕ)) → IsSome (vector m) → AreKeys g → length g ≡ length (filtered_direct_path leaves (first + leaf_count a) b i) → IsSome (hashes_from H leaves (first + leaf_count a) b i m g))
            → length keys ≡ length (if c
            then filtered_direct_path leaves first a i ++ where_resolved (resolution leaves (first + leaf_count a) b) (2 * (first + leaf_count a) - 1)
            else filtered_direct_path leaves (first + leaf_count a) b i ++ where_resolved (resolution leaves first a) (2 * (first + leaf_count a) - 1))
            → IsSome (if c
            then option_and_then (λ n. option_map (append_parent_hash n.parent hash) (hashes_from H leaves first a i n.hash n.keys)) (path_step_at H leaves (first + leaf_count a) b hash keys)
            else option_and_then (λ n. option_map (append_parent_hash n.parent hash) (hashes_from H leaves (first + leaf_count a) b i n.hash n.keys)) (path_step_at H leaves first a hash keys))
        go left right true in_left in_right long =
            let node_index = 2 * (first + leaf_count a) - 1 in
            let res = resolution leaves (first + leaf_count a) b in
            let n = handed_there res (first + leaf_count a) b hash keys (length (filtered_direct_path leaves first a i)) node_index right l ks
            (long ∙ length-append (filtered_direct_path leaves first a i) (where_resolved res node_index)) in
            through (λ n. append_parent_hash n.parent hash) (λ n. hashes_from H leaves first a i n.hash n.keys) (path_step_at H leaves (first + leaf_count a) b hash keys) n.next n.is
            (in_left n.next.hash n.next.keys n.written n.keys n.count)
        go left right false in_left in_right long =
            let node_index = 2 * (first + leaf_count a) - 1 in
            let res = resolution leaves first a in
            let n = handed_there res first a hash keys (length (filtered_direct_path leaves (first + leaf_count a) b i)) node_index left l ks
            (long ∙ length-append (filtered_direct_path leaves (first + leaf_count a) b i) (where_resolved res node_index)) in
            through (λ n. append_parent_hash n.parent hash) (λ n. hashes_from H leaves (first + leaf_count a) b i n.hash n.keys) (path_step_at H leaves first a hash keys) n.next n.is
            (in_right n.next.hash n.next.keys n.written n.keys n.count)

-- ---- the merged tree

module _ (H : List ℕ → List ℕ) (leaves i : ℕ) (x : LeafNode) where
  both_there : {A B : Type 0} (f : A → Option B) (g : A → Option Tree) (o : Option A) → ((a : A) → IsSome (f a) → IsSome (g a))
      → IsSome (option_and_then f o) → IsSome (option_and_then g o)
  both_there f g None each h = h
  both_there f g (Some a) each h = each a h

  mapped_there : {A B : Type 0} (f : A → A) (g : B → B) (a : Option A) (b : Option B) → (IsSome a → IsSome b) → IsSome (option_map f a) → IsSome (option_map g b)
  mapped_there f g None b each h = absurd (cc)
  mapped_there {B} f g (Some x) None each h = let bad : IsSome {T = B} None = each refl in absurd cc
  mapped_there f g (Some x) (Some y) each h = refl

  -- where there are hashes expected
  pub merged_there : (first : ℕ) (t : Tree) (hash : List ℕ) (keys : List (List ℕ)) → IsSome (hashes_from H leaves first t i hash keys)
      → IsSome (merged_from H leaves first t i x hash keys)
  merged_there first (leaf y) hash [] h = refl
  merged_there first (leaf y) hash (_ ∷ _) h = absurd cc
  merged_there first (branch a p b) hash keys h =
      go (nat_lt i (first + leaf_count a)) (λ m g. merged_there first a m g) (λ m g. merged_there (first + leaf_count a) b m g) h
    where
      go : (c : Bool) → ((m : List ℕ) (g : List (List ℕ)) → IsSome (hashes_from H leaves first a i m g) → IsSome (merged_from H leaves first a i x m g))
          → ((m : List ℕ) (g : List (List ℕ)) → IsSome (hashes_from H leaves (first + leaf_count a) b i m g) → IsSome (merged_from H leaves (first + leaf_count a) b i x m g))
          → IsSome (if c
          then option_and_then (λ n. option_map (append_parent_hash n.parent hash) (hashes_from H leaves first a i n.hash n.keys)) (path_step_at H leaves (first + leaf_count a) b hash keys)
          else option_and_then (λ n. option_map (append_parent_hash n.parent hash) (hashes_from H leaves (first + leaf_count a) b i n.hash n.keys)) (path_step_at H leaves first a hash keys))
          → IsSome (if c
          then option_and_then (λ n. option_map (λ t. branch t n.parent b) (merged_from H leaves first a i x n.hash n.keys)) (path_step_at H leaves (first + leaf_count a) b hash keys)
          else option_and_then (λ n. option_map (λ t. branch a n.parent t) (merged_from H leaves (first + leaf_count a) b i x n.hash n.keys)) (path_step_at H leaves first a hash keys))
      go true in_left in_right h =
          both_there (λ n. option_map (append_parent_hash n.parent hash) (hashes_from H leaves first a i n.hash n.keys)) (λ n. option_map (λ t. branch t n.parent b) (merged_from H leaves first a i x n.hash n.keys))
          (path_step_at H leaves (first + leaf_count a) b hash keys)
          (λ n. mapped_there (append_parent_hash n.parent hash) (λ t. branch t n.parent b) (hashes_from H leaves first a i n.hash n.keys) (merged_from H leaves first a i x n.hash n.keys) (in_left n.hash n.keys)) h
      go false in_left in_right h =
          both_there (λ n. option_map (append_parent_hash n.parent hash) (hashes_from H leaves (first + leaf_count a) b i n.hash n.keys)) (λ n. option_map (λ t. branch a n.parent t) (merged_from H leaves (first + leaf_count a) b i x n.hash n.keys))
          (path_step_at H leaves first a hash keys)
          (λ n. mapped_there (append_parent_hash n.parent hash) (λ t. branch a n.parent t) (hashes_from H leaves (first + leaf_count a) b i n.hash n.keys) (merged_from H leaves (first + leaf_count a) b i x n.hash n.keys) (in_right n.hash n.keys)) h

carried_there : (source : LeafSource) (o : Option (List (List ℕ))) → has_first_parent_hash source o ≡ true → IsSome o
carried_there source None h = absurd (false≢true h)
carried_there source (Some hs) h = refl

hashes_carried : (H : List ℕ → List ℕ) (path : UpdatePath) (t : Tree) (i : ℕ) → has_expected_hash H path t i ≡ true → IsSome (expected_hashes H t i (node_keys path))
unfolding has_expected_hash
hashes_carried H path t i h = carried_there path.leaf_node.source (expected_hashes H t i (node_keys path)) h

-- a path that carries the hash expected is merged
pub path_merged : (H : List ℕ → List ℕ) (path : UpdatePath) (t : Tree) (i : ℕ) → has_expected_hash H path t i ≡ true → IsSome (merged H t i path.leaf_node (node_keys path))
path_merged H path t i h = merged_there H (leaf_count t) i path.leaf_node 0 t [] (reverse (node_keys path)) (hashes_carried H path t i h)
