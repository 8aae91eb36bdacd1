-- One step of a walk over the subtree of height `level` whose first leaf is numbered `first`.
use Rattle.std.proofs.Common.{◌≡◌, ◌≢◌, ℕ, suc, ◌+◌, ◌*◌, ◌-◌, ◌<◌, ◌≤◌, List, [], ◌∷◌, ◌++◌, length, get_or, Option, Some, None, is_some, Bool, true, false, IsTrue, refl, sym, ap, ◌∙◌, arith, append_assoc}
use Rattle.std.specs.Prelude.{slice_get, ◌↔◌, option_copied}
use Rattle.std.specs.Borrow.{Bor}
use Rattle.std.proofs.lemmas.List.{append-nil}
use Rattle.std.proofs.lemmas.Option.{slice_get_read}
use Rattle.mls_nodes.specs.declared.parent.ParentNode.{ParentNode}
use Rattle.mls_nodes.specs.declared.node.Node.{Node}
use Rattle.mls_tree.specs.Tree.{Tree, leaf, branch, height, leaf_count, IsPerfect, root_node_index}
use Rattle.mls_tree.specs.TreeInternal.{leaves_at}
use Rattle.mls_tree.specs.NodeArray.{leaf_part, parent_part, tree_in}
use Rattle.mls_tree.specs.Paths.{resolution, direct_path, copath, filtered_direct_path, unmerged_node_indices, where_resolved}
use Rattle.mls_tree.proofs.Choices.{below, from}
use Rattle.mls_tree.proofs.Trees.{leaf_count-perfect}
use Rattle.mls_tree.proofs.Arrays.{leaf_count-tree_in}
use Rattle.mls_tree.proofs.Coordinates.{root_node_index-perfect}

pub parent-found : (xs : List (Option Node)) (p : ℕ) (e : Option Node) → p < length xs → e ≡ get_or xs p e → parent_part (slice_get xs p) ≡ parent_part (Some e)
parent-found xs p e h at = ap parent_part (slice_get_read xs (length xs) p e refl h at)

pub leaf-found : (xs : List (Option Node)) (p : ℕ) (e : Option Node) → p < length xs → e ≡ get_or xs p e → leaf_part (slice_get xs p) ≡ leaf_part (Some e)
leaf-found xs p e h at = ap leaf_part (slice_get_read xs (length xs) p e refl h at)

-- paths, which rest on the shape alone: what `old ++ ..` has become is added to at the end
module _ (first half level i : ℕ) (deep : level ≢ 0) (e : half ≡ leaves_at (level - 1)) (old mid new : List ℕ) where
  pub direct_path-left : i < first + half
      → ((t : Tree) → IsPerfect t → height t ≡ level - 1 → mid ≡ old ++ direct_path first t i)
      → new ≡ mid ++ (2 * (first + half) - 1) ∷ []
      → (t : Tree) → IsPerfect t → height t ≡ level → new ≡ old ++ direct_path first t i
  direct_path-left lt ih at (leaf _) p h = absurd (deep (sym h))
  direct_path-left lt ih at (branch l n r) p h =
      let k : height l ≡ level - 1 = omega arith in
      let c : half ≡ leaf_count l = e ∙ ap leaves_at (sym k) ∙ sym (leaf_count-perfect l p.1) in
      at ∙ (λ j. ih l p.1 k j ++ (2 * (first + c j) - 1) ∷ []) ∙ append_assoc old _ _
      ∙ ap (λ v. old ++ (v ++ (2 * (first + leaf_count l) - 1) ∷ [])) (sym (below i (first + leaf_count l) (direct_path first l i) (direct_path (first + leaf_count l) r i) (omega arith)))

  pub direct_path-right : first + half ≤ i
      → ((t : Tree) → IsPerfect t → height t ≡ level - 1 → mid ≡ old ++ direct_path (first + half) t i)
      → new ≡ mid ++ (2 * (first + half) - 1) ∷ []
      → (t : Tree) → IsPerfect t → height t ≡ level → new ≡ old ++ direct_path first t i
  direct_path-right ge ih at (leaf _) p h = absurd (deep (sym h))
  direct_path-right ge ih at (branch l n r) p h =
      let k : height l ≡ level - 1 = omega arith in
      let c : half ≡ leaf_count l = e ∙ ap leaves_at (sym k) ∙ sym (leaf_count-perfect l p.1) in
      at ∙ (λ j. ih r p.2 (sym p.0 ∙ k) j ++ (2 * (first + c j) - 1) ∷ []) ∙ append_assoc old _ _
      ∙ ap (λ v. old ++ (direct_path (first + v) r i ++ (2 * (first + leaf_count l) - 1) ∷ [])) c
      ∙ ap (λ v. old ++ (v ++ (2 * (first + leaf_count l) - 1) ∷ [])) (sym (from i (first + leaf_count l) (direct_path first l i) (direct_path (first + leaf_count l) r i) (omega arith)))

  pub copath-left : (q : ℕ) → q + 1 ≡ 2 * (first + half) + leaves_at (level - 1) → i < first + half
      → ((t : Tree) → IsPerfect t → height t ≡ level - 1 → mid ≡ old ++ copath first t i)
      → new ≡ mid ++ q ∷ []
      → (t : Tree) → IsPerfect t → height t ≡ level → new ≡ old ++ copath first t i
  copath-left q node_index lt ih at (leaf _) p h = absurd (deep (sym h))
  copath-left q node_index lt ih at (branch l n r) p h =
      let k : height l ≡ level - 1 = omega arith in
      let c : half ≡ leaf_count l = e ∙ ap leaves_at (sym k) ∙ sym (leaf_count-perfect l p.1) in
      let w : leaves_at (height r) ≡ leaves_at (level - 1) = ap leaves_at (sym p.0 ∙ k) in
      let s : q ≡ root_node_index (first + leaf_count l) r = omega (arith, root_node_index-perfect (first + leaf_count l) r p.2) in
      at ∙ (λ j. ih l p.1 k j ++ s j ∷ []) ∙ append_assoc old _ _
      ∙ ap (λ v. old ++ v) (sym (below i (first + leaf_count l) (copath first l i ++ root_node_index (first + leaf_count l) r ∷ []) (copath (first + leaf_count l) r i ++ root_node_index first l ∷ []) (omega arith)))

  pub copath-right : (q : ℕ) → q + 1 ≡ 2 * first + leaves_at (level - 1) → first + half ≤ i
      → ((t : Tree) → IsPerfect t → height t ≡ level - 1 → mid ≡ old ++ copath (first + half) t i)
      → new ≡ mid ++ q ∷ []
      → (t : Tree) → IsPerfect t → height t ≡ level → new ≡ old ++ copath first t i
  copath-right q node_index ge ih at (leaf _) p h = absurd (deep (sym h))
  copath-right q node_index ge ih at (branch l n r) p h =
      let k : height l ≡ level - 1 = omega arith in
      let c : half ≡ leaf_count l = e ∙ ap leaves_at (sym k) ∙ sym (leaf_count-perfect l p.1) in
      let w : leaves_at (height l) ≡ leaves_at (level - 1) = ap leaves_at k in
      let s : q ≡ root_node_index first l = omega (arith, root_node_index-perfect first l p.1) in
      at ∙ (λ j. ih r p.2 (sym p.0 ∙ k) j ++ s j ∷ []) ∙ append_assoc old _ _
      ∙ ap (λ v. old ++ (copath (first + v) r i ++ root_node_index first l ∷ [])) c
      ∙ ap (λ v. old ++ v) (sym (from i (first + leaf_count l) (copath first l i ++ root_node_index (first + leaf_count l) r ∷ []) (copath (first + leaf_count l) r i ++ root_node_index first l ∷ []) (omega arith)))

pub direct_path-leaf : (first i level : ℕ) (old : List ℕ) → level ≡ 0 → (t : Tree) → IsPerfect t → height t ≡ level → old ≡ old ++ direct_path first t i
direct_path-leaf first i level old z (leaf _) p h = sym (append-nil old)
direct_path-leaf first i level old z (branch l n r) p h = absurd (omega arith)

pub copath-leaf : (first i level : ℕ) (old : List ℕ) → level ≡ 0 → (t : Tree) → IsPerfect t → height t ≡ level → old ≡ old ++ copath first t i
copath-leaf first i level old z (leaf _) p h = sym (append-nil old)
copath-leaf first i level old z (branch l n r) p h = absurd (omega arith)

-- the tree in the array, by its subtrees
module _ (xs : List (Option Node)) (first half level : ℕ) (deep : level ≢ 0) (e : half ≡ leaves_at (level - 1)) where
  abbrev near : Tree
  near = tree_in xs (level - 1) first

  abbrev far : Tree
  far = tree_in xs (level - 1) (first + half)

  pub tree_in-split : tree_in xs level first ≡ branch (tree_in xs (level - 1) first) (parent_part (slice_get xs (2 * (first + half) - 1))) (tree_in xs (level - 1) (first + half))
  tree_in-split =
      let up : level ≡ suc (level - 1) = omega arith in
      ap (λ v. tree_in xs v first) up ∙ ap (λ v. branch near (parent_part (slice_get xs (2 * (first + v) - 1))) (tree_in xs (level - 1) (first + v))) (sym e)

  pub near-count : leaf_count near ≡ half
  near-count = leaf_count-tree_in xs (level - 1) first ∙ sym e

  module _ (leaves : ℕ) where
    pub resolution-blank : parent_part (slice_get xs (2 * (first + half) - 1)) ≡ None
        → resolution leaves first (tree_in xs level first) ≡ resolution leaves first (tree_in xs (level - 1) first) ++ resolution leaves (first + half) (tree_in xs (level - 1) (first + half))
    resolution-blank none =
        ap (λ t. resolution leaves first t) (tree_in-split ∙ ap (λ p. branch near p far) none) ∙ ap (λ v. resolution leaves first near ++ resolution leaves (first + v) far) near-count

    pub resolution-set : (p : ParentNode) → parent_part (slice_get xs (2 * (first + half) - 1)) ≡ Some p
        → resolution leaves first (tree_in xs level first) ≡ (2 * (first + half) - 1) ∷ unmerged_node_indices leaves p.unmerged
    resolution-set p some =
        ap (λ t. resolution leaves first t) (tree_in-split ∙ ap (λ q. branch near q far) some) ∙ ap (λ v. (2 * (first + v) - 1) ∷ unmerged_node_indices leaves p.unmerged) near-count

    pub filtered_direct_path-left : (i : ℕ) → i < first + half
        → filtered_direct_path leaves first (tree_in xs level first) i ≡ filtered_direct_path leaves first near i ++ where_resolved (resolution leaves (first + half) far) (2 * (first + half) - 1)
    filtered_direct_path-left i lt =
        let c = near-count in
        ap (λ t. filtered_direct_path leaves first t i) tree_in-split ∙ below i (first + leaf_count near) _ _ (omega arith)
        ∙ ap (λ v. filtered_direct_path leaves first near i ++ where_resolved (resolution leaves (first + v) far) (2 * (first + v) - 1)) c

    pub filtered_direct_path-right : (i : ℕ) → first + half ≤ i
        → filtered_direct_path leaves first (tree_in xs level first) i ≡ filtered_direct_path leaves (first + half) far i ++ where_resolved (resolution leaves first near) (2 * (first + half) - 1)
    filtered_direct_path-right i ge =
        let c = near-count in
        ap (λ t. filtered_direct_path leaves first t i) tree_in-split ∙ from i (first + leaf_count near) _ _ (omega arith)
        ∙ ap (λ v. filtered_direct_path leaves (first + v) far i ++ where_resolved (resolution leaves first near) (2 * (first + v) - 1)) c

pub where_resolved-set : (xs : List ℕ) (p : ℕ) → xs ≢ [] → where_resolved xs p ≡ p ∷ []
where_resolved-set [] p h = absurd (h refl)
where_resolved-set (x ∷ xs) p h = refl

pub where_resolved-none : (xs : List ℕ) (p : ℕ) → (xs ≢ [] → IsTrue false) → where_resolved xs p ≡ []
where_resolved-none [] p h = refl
where_resolved-none (x ∷ xs) p h = absurd (cc (h (λ e. cc)))

pub append-set : (xs ys : List ℕ) → xs ≢ [] → xs ++ ys ≢ []
append-set [] ys h e = h refl
append-set (x ∷ xs) ys h e = cc

pub append-set_right : (xs ys : List ℕ) → ys ≢ [] → xs ++ ys ≢ []
append-set_right [] ys h e = h e
append-set_right (x ∷ xs) ys h e = cc

pub leaves_at-split : (level half : ℕ) → level ≢ 0 → half ≡ leaves_at (level - 1) → leaves_at level ≡ half + half
leaves_at-split level half deep e = let up : level ≡ suc (level - 1) = omega arith in ap leaves_at up ∙ (λ i. sym e i + sym e i)

-- what was pushed after a step of the filtered path: that of the subtree with the leaf, and then the parent's node index, if it is not left out
module _ (xs : List (Option Node)) (first half level : ℕ) (deep : level ≢ 0) (e : half ≡ leaves_at (level - 1)) (leaves i : ℕ) (old mid new kept : List ℕ) (at : new ≡ mid ++ kept) where
  pub filtered_direct_path-pushed_left : i < first + half → mid ≡ old ++ filtered_direct_path leaves first (tree_in xs (level - 1) first) i
      → where_resolved (resolution leaves (first + half) (tree_in xs (level - 1) (first + half))) (2 * (first + half) - 1) ≡ kept
      → new ≡ old ++ filtered_direct_path leaves first (tree_in xs level first) i
  filtered_direct_path-pushed_left lt ih k =
      at ∙ (λ j. ih j ++ sym k j) ∙ append_assoc old _ _ ∙ ap (λ v. old ++ v) (sym (filtered_direct_path-left xs first half level deep e leaves i lt))

  pub filtered_direct_path-pushed_right : first + half ≤ i → mid ≡ old ++ filtered_direct_path leaves (first + half) (tree_in xs (level - 1) (first + half)) i
      → where_resolved (resolution leaves first (tree_in xs (level - 1) first)) (2 * (first + half) - 1) ≡ kept
      → new ≡ old ++ filtered_direct_path leaves first (tree_in xs level first) i
  filtered_direct_path-pushed_right ge ih k =
      at ∙ (λ j. ih j ++ sym k j) ∙ append_assoc old _ _ ∙ ap (λ v. old ++ v) (sym (filtered_direct_path-right xs first half level deep e leaves i ge))

-- whether a resolution is empty, by the parent and its children
module _ (xs : List (Option Node)) (first half level : ℕ) (deep : level ≢ 0) (e : half ≡ leaves_at (level - 1)) (leaves : ℕ) where
  pub resolution-has_left : resolution leaves first (tree_in xs (level - 1) first) ≢ [] → resolution leaves first (tree_in xs level first) ≢ []
  resolution-has_left h none = go (parent_part (slice_get xs (2 * (first + half) - 1))) refl
    where
      go : (o : Option ParentNode) → parent_part (slice_get xs (2 * (first + half) - 1)) ≡ o → ⊥
      go None w = append-set _ _ h (sym (resolution-blank xs first half level deep e leaves w) ∙ none)
      go (Some p) w = let q = sym (resolution-set xs first half level deep e leaves p w) ∙ none in cc

  pub resolution-has_set : (o : Option ParentNode) → parent_part (slice_get xs (2 * (first + half) - 1)) ≡ o → is_some o ≡ true → resolution leaves first (tree_in xs level first) ≢ []
  resolution-has_set None w s none = cc
  resolution-has_set (Some p) w s none = let q = sym (resolution-set xs first half level deep e leaves p w) ∙ none in cc

  pub resolution-has_right : (b : Bool) (o : Option ParentNode) → parent_part (slice_get xs (2 * (first + half) - 1)) ≡ o → is_some o ≡ false
      → (resolution leaves first (tree_in xs (level - 1) first) ≢ [] → IsTrue false)
      → (IsTrue b ↔ (resolution leaves (first + half) (tree_in xs (level - 1) (first + half)) ≢ []))
      → (IsTrue b ↔ (resolution leaves first (tree_in xs level first) ≢ []))
  resolution-has_right b (Some p) w s l r = absurd (cc)
  resolution-has_right b None w s l r = (
    λ t none. append-set_right _ _ (r.0 t) (sym (resolution-blank xs first half level deep e leaves w) ∙ none),
    λ some. go (resolution leaves first (tree_in xs (level - 1) first)) refl some,
  )
    where
      go : (v : List ℕ) → resolution leaves first (tree_in xs (level - 1) first) ≡ v → resolution leaves first (tree_in xs level first) ≢ [] → IsTrue b
      go [] q some = r.1 (λ z. some (resolution-blank xs first half level deep e leaves w ∙ (λ j. q j ++ z j)))
      go (x ∷ v) q some = absurd (cc (l (λ z. let y = sym q ∙ z in cc)))

-- what has been pushed after a step of the resolution
module _ (xs : List (Option Node)) (first half level : ℕ) (deep : level ≢ 0) (e : half ≡ leaves_at (level - 1)) (leaves : ℕ) (old mid new : List ℕ) where
  pub resolution-pushed_blank : parent_part (slice_get xs (2 * (first + half) - 1)) ≡ None
      → mid ≡ old ++ resolution leaves first (tree_in xs (level - 1) first)
      → new ≡ mid ++ resolution leaves (first + half) (tree_in xs (level - 1) (first + half))
      → new ≡ old ++ resolution leaves first (tree_in xs level first)
  resolution-pushed_blank none l r =
      r ∙ ap (λ v. v ++ resolution leaves (first + half) (tree_in xs (level - 1) (first + half))) l ∙ append_assoc old _ _
      ∙ ap (λ v. old ++ v) (sym (resolution-blank xs first half level deep e leaves none))

  pub resolution-pushed_set : (p : ParentNode) (ys : List ℕ) → parent_part (slice_get xs (2 * (first + half) - 1)) ≡ Some p
      → mid ≡ old ++ (2 * (first + half) - 1) ∷ [] → ys ≡ p.unmerged → new ≡ mid ++ unmerged_node_indices leaves ys
      → new ≡ old ++ resolution leaves first (tree_in xs level first)
  resolution-pushed_set p ys some l y r =
      r ∙ (λ j. l j ++ unmerged_node_indices leaves (y j)) ∙ append_assoc old ((2 * (first + half) - 1) ∷ []) (unmerged_node_indices leaves p.unmerged)
      ∙ ap (λ v. old ++ v) (sym (resolution-set xs first half level deep e leaves p some))

pub is_some-copied : {X : Type 0} → (r : Option (Bor X)) → is_some (option_copied r) ≡ is_some r
is_some-copied None = refl
is_some-copied (Some x) = refl
