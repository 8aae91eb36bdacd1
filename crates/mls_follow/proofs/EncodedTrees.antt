-- Every node of a tree has a spelling, so the tree has a hash; and a commit keeps that.
use Rattle.std.proofs.Common.{◌≡◌, ◌∙◌, sym, ℕ, zero, suc, ◌+◌, ◌≤◌, List, [], ◌∷◌, length, Bool, true, false, Option, Some, None, IsSome, refl, ap, subst, arith}
use Rattle.std.specs.Prelude.{if◌then◌else◌, nat_lt, option_map, option_and_then}
use Rattle.std.specs.Int.{w8, w32}
use Rattle.std.proofs.lemmas.Bool.{or_parts}
use Rattle.std.proofs.lemmas.Option.{none-some, same_Some, option_and_then_some}
use Rattle.std.proofs.lemmas.List.Elements.{All-head, All-tail}
use Rattle.mls_wire.specs.EncodedSizes.{vector_some}
use Rattle.mls_wire.specs.Encoding.{◌⊕◌, number, vector, optional}
use Rattle.mls_nodes.specs.Layout as layout
use Rattle.mls_nodes.specs.declared.leaf.LeafNode.{LeafNode}
use Rattle.mls_nodes.specs.declared.parent.ParentNode.{ParentNode}
use Rattle.mls_tree.specs.Tree.{Tree, leaf, branch, height, leaf_count, IsPerfect}
use Rattle.mls_tree.specs.TreeHash.{tree_hash, leaf_tree_hash_input, parent_tree_hash_input}
use Rattle.mls_tree.specs.BlankLeaves.{first_blank_leaf}
use Rattle.mls_tree.specs.Paths.{resolution}
use Rattle.mls_tree.specs.TreeOperations.{put_leaf, change_above, blank_path, has_non_blank_leaf, truncate, blank_tree, extend, update, remove, with_unmerged, is_overfilled, is_overfilled_above, add_unmerged, add, added_leaf, extended_if_full}
use Rattle.mls_tree.proofs.Kept.{either}
use Rattle.mls_hash.specs.ParentHash as parents
use Rattle.mls_apply.specs.MergePath.{PathStep, path_step_at, path_step, path_parent, path_hash, merged_from}
use Rattle.mls_apply.proofs.Expected.{AreKeys}
use Rattle.mls_apply.proofs.Encodings.{put_back, both_encoded, right_encoded, mapped_some, parts_some}
use Rattle.mls_follow.proofs.Encodings.{number_encoded, none_unmerged, parent_encoded, added_encoded}

-- each node has a spelling
abbrev pub IsEncoded : Tree → Type 0
IsEncoded (leaf x) = IsSome (optional layout.leaf x)
IsEncoded (branch l p r) = IsEncoded l × IsSome (optional layout.parent p) × IsEncoded r

pub blank_parent : IsSome (optional layout.parent None)
unfolding optional
blank_parent = refl

pub set_leaf_encoded : (x : LeafNode) → IsSome (layout.leaf x) → IsSome (optional layout.leaf (Some x))
unfolding optional
set_leaf_encoded x h = both_encoded (Some (1 ∷ [])) (layout.leaf x) refl h

blank_leaf_encoded : IsSome (optional layout.leaf None)
unfolding optional
blank_leaf_encoded = refl

-- ---- hashes

-- a tree whose hash exists has nodes with spellings
pub hashed_encoded : (H : List ℕ → List ℕ) (first : ℕ) (t : Tree) → IsSome (tree_hash H first t) → IsEncoded t
hashed_encoded H first (leaf x) h =
    right_encoded (number w32 first) (optional layout.leaf x) (right_encoded (number w8 1) (number w32 first ⊕ optional layout.leaf x) (mapped_some H (leaf_tree_hash_input first x) h))
hashed_encoded H first (branch l p r) h =
    let parts = parts_some H p (tree_hash H first l) (tree_hash H (first + leaf_count l) r) h in
    (hashed_encoded H first l parts.0, parts.1, hashed_encoded H (first + leaf_count l) r parts.2)

-- a hash that has a spelling as a vector
record IsHashed (o : Option (List ℕ)) : Type 0 where
  hash : List ℕ
  is : o ≡ Some hash
  short : length hash ≤ 1073741823

module _ (H : List ℕ → List ℕ) (short : (m : List ℕ) → length (H m) ≤ 1073741823) where
  hash_made : (o : Option (List ℕ)) → IsSome o → IsHashed (option_map H o)
  hash_made None h = absurd (cc)
  hash_made (Some x) h = record { hash = H x; is = refl; short = short x }

  hashed : (first : ℕ) (t : Tree) → first + leaf_count t ≤ 4294967296 → IsEncoded t → IsHashed (tree_hash H first t)
  hashed first (leaf x) few h =
      hash_made (leaf_tree_hash_input first x)
      (both_encoded (number w8 1) (number w32 first ⊕ optional layout.leaf x) (number_encoded w8 1 (omega arith))
      (both_encoded (number w32 first) (optional layout.leaf x) (number_encoded w32 first (omega arith)) h))
  hashed first (branch l p r) few h =
      let a = hashed first l (omega arith) h.0 in
      let b = hashed (first + leaf_count l) r (omega arith) h.2 in
      rw (a.is, b.is) (hash_made (parent_tree_hash_input p a.hash b.hash)
      (both_encoded (number w8 2) (optional layout.parent p ⊕ vector a.hash ⊕ vector b.hash) (number_encoded w8 2 (omega arith))
      (both_encoded (optional layout.parent p) (vector a.hash ⊕ vector b.hash) h.1
      (both_encoded (vector a.hash) (vector b.hash) (vector_some a.hash a.short) (vector_some b.hash b.short)))))

  pub tree_hashed : (t : Tree) → leaf_count t ≤ 4294967296 → IsEncoded t → IsSome (tree_hash H 0 t)
  tree_hashed t few h = let a = hashed 0 t (omega arith) h in put_back (tree_hash H 0 t) a.hash a.is

-- ---- changes

pub IsEncoded-put_leaf : (first : ℕ) (t : Tree) (i : ℕ) (x : Option LeafNode) → IsSome (optional layout.leaf x) → IsEncoded t → IsEncoded (put_leaf first t i x)
IsEncoded-put_leaf first (leaf y) i x s h = s
IsEncoded-put_leaf first (branch l p r) i x s h =
    either IsEncoded (nat_lt i (first + leaf_count l)) (branch (put_leaf first l i x) p r) (branch l p (put_leaf (first + leaf_count l) r i x))
    (IsEncoded-put_leaf first l i x s h.0, h.1, h.2) (h.0, h.1, IsEncoded-put_leaf (first + leaf_count l) r i x s h.2)

pub IsEncoded-clear : (first : ℕ) (t : Tree) (i : ℕ) → IsEncoded t → IsEncoded (change_above (λ _. None) first t i)
IsEncoded-clear first (leaf x) i h = h
IsEncoded-clear first (branch l p r) i h =
    either IsEncoded (nat_lt i (first + leaf_count l)) (branch (change_above (λ _. None) first l i) None r) (branch l None (change_above (λ _. None) (first + leaf_count l) r i))
    (IsEncoded-clear first l i h.0, blank_parent, h.2) (h.0, blank_parent, IsEncoded-clear (first + leaf_count l) r i h.2)

pub IsEncoded-begin_epoch : (first : ℕ) (t : Tree) (i : ℕ) → IsSome (number w32 i) → is_overfilled_above first t i ≡ false → IsEncoded t
    → IsEncoded (change_above (with_unmerged i) first t i)
IsEncoded-begin_epoch first (leaf x) i n capacity h = h
IsEncoded-begin_epoch first (branch l p r) i n capacity h =
    let rooms = or_parts (if nat_lt i (first + leaf_count l) then is_overfilled_above first l i else is_overfilled_above (first + leaf_count l) r i) (is_overfilled i p) capacity in
    go (nat_lt i (first + leaf_count l)) (IsEncoded-begin_epoch first l i n) (IsEncoded-begin_epoch (first + leaf_count l) r i n) rooms.0 (added_encoded i p n rooms.1 h.1)
  where
    go : (b : Bool) → (is_overfilled_above first l i ≡ false → IsEncoded l → IsEncoded (change_above (with_unmerged i) first l i))
        → (is_overfilled_above (first + leaf_count l) r i ≡ false → IsEncoded r → IsEncoded (change_above (with_unmerged i) (first + leaf_count l) r i))
        → (if b then is_overfilled_above first l i else is_overfilled_above (first + leaf_count l) r i) ≡ false → IsSome (optional layout.parent (with_unmerged i p))
        → IsEncoded (if b then branch (change_above (with_unmerged i) first l i) (with_unmerged i p) r else branch l (with_unmerged i p) (change_above (with_unmerged i) (first + leaf_count l) r i))
    go true in_left in_right capacity s = (in_left capacity h.0, s, h.2)
    go false in_left in_right capacity s = (h.0, s, in_right capacity h.2)

IsEncoded-blank_tree : (k : ℕ) → IsEncoded (blank_tree k)
IsEncoded-blank_tree zero = blank_leaf_encoded
IsEncoded-blank_tree (suc k) = (IsEncoded-blank_tree k, blank_parent, IsEncoded-blank_tree k)

pub IsEncoded-extend : (t : Tree) → IsEncoded t → IsEncoded (extend t)
IsEncoded-extend t h = (h, blank_parent, IsEncoded-blank_tree (height t))

pub IsEncoded-truncate : (t : Tree) → IsEncoded t → IsEncoded (truncate t)
IsEncoded-truncate (leaf x) h = h
IsEncoded-truncate (branch l p r) h = either IsEncoded (has_non_blank_leaf r) (branch l p r) (truncate l) h (IsEncoded-truncate l h.0)

pub IsEncoded-update : (t : Tree) (i : ℕ) (x : LeafNode) → IsSome (layout.leaf x) → IsEncoded t → IsEncoded (update t i x)
IsEncoded-update t i x s h = IsEncoded-clear 0 (put_leaf 0 t i (Some x)) i (IsEncoded-put_leaf 0 t i (Some x) (set_leaf_encoded x s) h)

pub IsEncoded-remove : (t : Tree) (i : ℕ) → IsEncoded t → IsEncoded (remove t i)
IsEncoded-remove t i h =
    IsEncoded-truncate (blank_path (put_leaf 0 t i None) i) (IsEncoded-clear 0 (put_leaf 0 t i None) i (IsEncoded-put_leaf 0 t i None blank_leaf_encoded h))

pub IsEncoded-applied_tree : (t : Tree) (o : Option ℕ) → IsEncoded t → IsEncoded (extended_if_full o t)
IsEncoded-applied_tree t None h = IsEncoded-extend t h
IsEncoded-applied_tree t (Some j) h = h

pub IsEncoded-add : (t : Tree) (x : LeafNode) → IsSome (layout.leaf x) → IsSome (number w32 (added_leaf t))
    → is_overfilled_above 0 (extended_if_full (first_blank_leaf 0 t) t) (added_leaf t) ≡ false → IsEncoded t → IsEncoded (add t x)
IsEncoded-add t x s n capacity h =
    IsEncoded-put_leaf 0 (add_unmerged (extended_if_full (first_blank_leaf 0 t) t) (added_leaf t)) (added_leaf t) (Some x) (set_leaf_encoded x s)
    (IsEncoded-begin_epoch 0 (extended_if_full (first_blank_leaf 0 t) t) (added_leaf t) n capacity (IsEncoded-applied_tree t (first_blank_leaf 0 t) h))

-- ---- a path

-- what is handed down has spellings
record IsSupplied (n : PathStep) : Type 0 where
  parent : IsSome (optional layout.parent n.parent)
  hash : length n.hash ≤ 1073741823
  keys : AreKeys n.keys

module _ (H : List ℕ → List ℕ) (short : (m : List ℕ) → length (H m) ≤ 1073741823) where
  mapped_short : (o : Option (List ℕ)) (h : List ℕ) → option_map H o ≡ Some h → length h ≤ 1073741823
  mapped_short None h e = absurd (none-some h e)
  mapped_short (Some x) h e = subst (λ (y : List ℕ). length y ≤ 1073741823) (same_Some (H x) h e) (short x)

  hash_short : (p : ParentNode) (first : ℕ) (away : Tree) (h : List ℕ) → path_hash H p first away ≡ Some h → length h ≤ 1073741823
  hash_short p first away h e =
      option_and_then_some (λ original. option_map H (parents.parent_hash_input p original)) (tree_hash H first away) h e
      (λ original a b. mapped_short (parents.parent_hash_input p original) h b)

  path_parent_encoded : (key hash : List ℕ) → IsSome (vector key) → length hash ≤ 1073741823 → IsSome (optional layout.parent (Some (path_parent key hash)))
  unfolding optional
  path_parent_encoded key hash k l =
      both_encoded (Some (1 ∷ [])) (layout.parent (path_parent key hash)) refl (parent_encoded key hash [] k (vector_some hash l) none_unmerged)

  made_supplied : (key hash : List ℕ) (keys : List (List ℕ)) (o : Option (List ℕ)) → ((h : List ℕ) → o ≡ Some h → length h ≤ 1073741823)
      → IsSome (optional layout.parent (Some (path_parent key hash))) → AreKeys keys
      → (n : PathStep) → option_map (λ h. record { parent = Some (path_parent key hash); hash = h; keys = keys }) o ≡ Some n → IsSupplied n
  made_supplied key hash keys None l s ks n e = absurd (none-some n e)
  made_supplied key hash keys (Some h) l s ks n e =
      subst IsSupplied (same_Some (record { parent = Some (path_parent key hash); hash = h; keys = keys }) n e) (record { parent = s; hash = l h refl; keys = ks })

  supplied_encoded : (node_indices : List ℕ) (first : ℕ) (away : Tree) (hash : List ℕ) (keys : List (List ℕ)) (n : PathStep) → length hash ≤ 1073741823 → AreKeys keys
      → path_step H node_indices first away hash keys ≡ Some n → IsSupplied n
  supplied_encoded [] first away hash keys n l ks e =
      subst IsSupplied (same_Some (record { parent = None; hash = hash; keys = keys }) n e) (record { parent = blank_parent; hash = l; keys = ks })
  supplied_encoded (p ∷ ps) first away hash [] n l ks e = absurd (none-some n e)
  supplied_encoded (p ∷ ps) first away hash (key ∷ keys) n l ks e =
      made_supplied key hash keys (path_hash H (path_parent key hash) first away) (λ h q. hash_short (path_parent key hash) first away h q)
      (path_parent_encoded key hash (All-head (λ k. IsSome (vector k)) key keys ks) l) (All-tail (λ k. IsSome (vector k)) key keys ks) n e

  -- a tree, as high as another one and perfect where that one is, whose nodes have spellings
  pub record IsMerged (t u : Tree) : Type 0 where
    pub encoded : IsEncoded u
    pub as_high : height u ≡ height t
    pub perfect : IsPerfect t → IsPerfect u

  module _ (leaves i : ℕ) (x : LeafNode) (s : IsSome (layout.leaf x)) where
    rebuilt : (whole : Tree) (made : Tree → Tree) (below : Tree) (o : Option Tree) → ((u : Tree) → IsMerged below u → IsMerged whole (made u))
        → ((u : Tree) → o ≡ Some u → IsMerged below u) → (v : Tree) → option_map made o ≡ Some v → IsMerged whole v
    rebuilt whole made below None up each v e = absurd (none-some v e)
    rebuilt whole made below (Some u) up each v e = subst (IsMerged whole) (same_Some (made u) v e) (up u (each u refl))

    pub merged_encoded : (first : ℕ) (t : Tree) (hash : List ℕ) (keys : List (List ℕ)) (u : Tree) → length hash ≤ 1073741823 → AreKeys keys → IsEncoded t
        → merged_from H leaves first t i x hash keys ≡ Some u → IsMerged t u
    merged_encoded first (leaf y) hash (_ ∷ _) u l ks h e = absurd (none-some u e)
    merged_encoded first (leaf y) hash [] u l ks h e =
        subst (IsMerged (leaf y)) (same_Some (leaf (Some x)) u e) (record { encoded = set_leaf_encoded x s; as_high = refl; perfect = λ p. tt })
    merged_encoded first (branch a p b) hash keys u l ks h e =
        go (nat_lt i (first + leaf_count a)) (λ m g v. merged_encoded first a m g v) (λ m g v. merged_encoded (first + leaf_count a) b m g v) e
      where
        go : (c : Bool)
            → ((m : List ℕ) (g : List (List ℕ)) (v : Tree) → length m ≤ 1073741823 → AreKeys g → IsEncoded a → merged_from H leaves first a i x m g ≡ Some v → IsMerged a v)
            → ((m : List ℕ) (g : List (List ℕ)) (v : Tree) → length m ≤ 1073741823 → AreKeys g → IsEncoded b → merged_from H leaves (first + leaf_count a) b i x m g ≡ Some v → IsMerged b v)
            → (if c
            then option_and_then (λ n. option_map (λ t. branch t n.parent b) (merged_from H leaves first a i x n.hash n.keys)) (path_step_at H leaves (first + leaf_count a) b hash keys)
            else option_and_then (λ n. option_map (λ t. branch a n.parent t) (merged_from H leaves (first + leaf_count a) b i x n.hash n.keys)) (path_step_at H leaves first a hash keys)) ≡ Some u
            → IsMerged (branch a p b) u
        go true in_left in_right e =
            option_and_then_some (λ n. option_map (λ t. branch t n.parent b) (merged_from H leaves first a i x n.hash n.keys)) (path_step_at H leaves (first + leaf_count a) b hash keys) u e
            (λ n f g.
            let k = supplied_encoded (resolution leaves (first + leaf_count a) b) (first + leaf_count a) b hash keys n l ks f in
            rebuilt (branch a p b) (λ t. branch t n.parent b) a (merged_from H leaves first a i x n.hash n.keys)
            (λ v m. record { encoded = (m.encoded, k.parent, h.2); as_high = ap suc m.as_high; perfect = λ p. (m.as_high ∙ p.0, m.perfect p.1, p.2) })
            (λ v q. in_left n.hash n.keys v k.hash k.keys h.0 q) u g)
        go false in_left in_right e =
            option_and_then_some (λ n. option_map (λ t. branch a n.parent t) (merged_from H leaves (first + leaf_count a) b i x n.hash n.keys)) (path_step_at H leaves first a hash keys) u e
            (λ n f g.
            let k = supplied_encoded (resolution leaves first a) first a hash keys n l ks f in
            rebuilt (branch a p b) (λ t. branch a n.parent t) b (merged_from H leaves (first + leaf_count a) b i x n.hash n.keys)
            (λ v m. record { encoded = (h.0, k.parent, m.encoded); as_high = refl; perfect = λ p. (p.0 ∙ sym m.as_high, p.1, m.perfect p.2) })
            (λ v q. in_right n.hash n.keys v k.hash k.keys h.2 q) u g)
