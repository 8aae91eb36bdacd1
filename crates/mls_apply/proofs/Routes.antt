-- To merge a path is to make its parents along the filtered direct path, to blank the direct path, to put each parent
-- in place, and then the leaf.
use Rattle.std.proofs.Common.{◌≡◌, ℕ, ◌+◌, ◌-◌, ◌*◌, ◌<◌, ◌≤◌, List, [], ◌∷◌, ◌++◌, Option, Some, None, refl, sym, ap, ◌∙◌, subst, arith, inl, inr}
use Rattle.std.specs.Prelude.{option_map, option_and_then, map, reverse}
use Rattle.std.proofs.lemmas.Bool.{cases_lt}
use Rattle.std.proofs.lemmas.List.{reverse-append}
use Rattle.mls_nodes.specs.declared.leaf.LeafNode.{LeafNode}
use Rattle.mls_nodes.specs.declared.parent.ParentNode.{ParentNode}
use Rattle.mls_tree.specs.Tree.{Tree, leaf, branch, leaf_count, root_node_index, Subtree, subtree_at}
use Rattle.mls_tree.specs.TreeOperations.{put_leaf, put_parent, change_above, blank_path}
use Rattle.mls_tree.specs.Paths.{resolution, filtered_direct_path, where_resolved}
use Rattle.mls_tree.proofs.Choices.{below as if_less, from as if_not_less, here, before, after}
use Rattle.mls_tree.proofs.Kept.{leaf_count-put_parent, leaf_count-change_above}
use Rattle.mls_tree.proofs.Trees.{leaf_count-positive, subtree_at-left, subtree_at-right, subtree_at-root}
use Rattle.mls_apply.specs.MergePath.{PathStep, path_step_at, path_step, merged_from, merged, path_parent, path_hash, append_parent_hash, hashes_from, expected_hashes}
use Rattle.mls_apply.specs.PathParents.{copath_child, away_at, path_hash_at, Change, PathParents, below, path_parents, parents_of_path, changed, carried}

-- ---- parents put in

module _ (first : ℕ) (l : Tree) (n : Option ParentNode) (r : Tree) (p : ℕ) (x : Option ParentNode) where
  put-here : p + 1 ≡ 2 * (first + leaf_count l) → put_parent first (branch l n r) p x ≡ branch l x r
  put-here e = here (p + 1) (2 * (first + leaf_count l)) (branch l x r) (branch (put_parent first l p x) n r) (branch l n (put_parent (first + leaf_count l) r p x)) e

  put-left : p + 1 < 2 * (first + leaf_count l) → put_parent first (branch l n r) p x ≡ branch (put_parent first l p x) n r
  put-left e = before (p + 1) (2 * (first + leaf_count l)) (branch l x r) (branch (put_parent first l p x) n r) (branch l n (put_parent (first + leaf_count l) r p x)) e

  put-right : 2 * (first + leaf_count l) < p + 1 → put_parent first (branch l n r) p x ≡ branch l n (put_parent (first + leaf_count l) r p x)
  put-right e = after (p + 1) (2 * (first + leaf_count l)) (branch l x r) (branch (put_parent first l p x) n r) (branch l n (put_parent (first + leaf_count l) r p x)) e

pub leaf_count-changed : (first : ℕ) (t : Tree) (cs : List Change) → leaf_count (changed first t cs) ≡ leaf_count t
leaf_count-changed first t [] = refl
leaf_count-changed first t (c ∷ cs) = leaf_count-put_parent first (changed first t cs) c.node_index (Some c.parent) ∙ leaf_count-changed first t cs

-- places that lie between two others
abbrev pub Within : ℕ → ℕ → List ℕ → Type 0
Within low high [] = Unit {0}
Within low high (p ∷ ps) = (low ≤ p) × (p + 1 < high) × Within low high ps

within-wider : (low high lower higher : ℕ) → lower ≤ low → high ≤ higher → (ps : List ℕ) → Within low high ps → Within lower higher ps
within-wider low high lower higher a b [] w = tt
within-wider low high lower higher a b (p ∷ ps) w = (omega (arith, w.0), omega (arith, w.1), within-wider low high lower higher a b ps w.2)

-- the places of new parents
abbrev pub node_indices_of : List Change → List ℕ
node_indices_of cs = map (λ c. c.node_index) cs

changed-left : (first : ℕ) (l : Tree) (n : Option ParentNode) (r : Tree) (cs : List Change) (low : ℕ) → Within low (2 * (first + leaf_count l)) (node_indices_of cs)
    → changed first (branch l n r) cs ≡ branch (changed first l cs) n r
changed-left first l n r [] low w = refl
changed-left first l n r (c ∷ cs) low w =
    ap (λ t. put_parent first t c.node_index (Some c.parent)) (changed-left first l n r cs low w.2)
    ∙ put-left first (changed first l cs) n r c.node_index (Some c.parent) (let e = leaf_count-changed first l cs in omega (arith, w.1))

changed-right : (first : ℕ) (l : Tree) (n : Option ParentNode) (r : Tree) (cs : List Change) (high : ℕ) → Within (2 * (first + leaf_count l)) high (node_indices_of cs)
    → changed first (branch l n r) cs ≡ branch l n (changed (first + leaf_count l) r cs)
changed-right first l n r [] high w = refl
changed-right first l n r (c ∷ cs) high w =
    ap (λ t. put_parent first t c.node_index (Some c.parent)) (changed-right first l n r cs high w.2)
    ∙ put-right first l n (changed (first + leaf_count l) r cs) c.node_index (Some c.parent) (omega (arith, w.0))

-- ---- the filtered direct path, the root first

abbrev pub falling : ℕ → ℕ → Tree → ℕ → List ℕ
falling leaves first s i = reverse (filtered_direct_path leaves first s i)

turned : (xs res : List ℕ) (p : ℕ) → reverse (xs ++ where_resolved res p) ≡ where_resolved res p ++ reverse xs
turned xs [] p = reverse-append xs []
turned xs (_ ∷ _) p = reverse-append xs (p ∷ [])

module _ (leaves i first : ℕ) (l : Tree) (n : Option ParentNode) (r : Tree) where
  falling-left : i < first + leaf_count l
      → falling leaves first (branch l n r) i ≡ where_resolved (resolution leaves (first + leaf_count l) r) (2 * (first + leaf_count l) - 1) ++ falling leaves first l i
  falling-left lt =
      ap reverse (if_less i (first + leaf_count l)
      (filtered_direct_path leaves first l i ++ where_resolved (resolution leaves (first + leaf_count l) r) (2 * (first + leaf_count l) - 1))
      (filtered_direct_path leaves (first + leaf_count l) r i ++ where_resolved (resolution leaves first l) (2 * (first + leaf_count l) - 1)) lt)
      ∙ turned (filtered_direct_path leaves first l i) (resolution leaves (first + leaf_count l) r) (2 * (first + leaf_count l) - 1)

  falling-right : first + leaf_count l ≤ i
      → falling leaves first (branch l n r) i ≡ where_resolved (resolution leaves first l) (2 * (first + leaf_count l) - 1) ++ falling leaves (first + leaf_count l) r i
  falling-right ge =
      ap reverse (if_not_less i (first + leaf_count l)
      (filtered_direct_path leaves first l i ++ where_resolved (resolution leaves (first + leaf_count l) r) (2 * (first + leaf_count l) - 1))
      (filtered_direct_path leaves (first + leaf_count l) r i ++ where_resolved (resolution leaves first l) (2 * (first + leaf_count l) - 1)) ge)
      ∙ turned (filtered_direct_path leaves (first + leaf_count l) r i) (resolution leaves first l) (2 * (first + leaf_count l) - 1)

within-resolved : (low high : ℕ) (res : List ℕ) (p : ℕ) (ps : List ℕ) → low ≤ p → p + 1 < high → Within low high ps → Within low high (where_resolved res p ++ ps)
within-resolved low high [] p ps a b w = w
within-resolved low high (_ ∷ _) p ps a b w = (a, b, w)

pub falling-within : (leaves i first : ℕ) (s : Tree) → Within (2 * first) (2 * (first + leaf_count s)) (falling leaves first s i)
falling-within leaves i first (leaf _) = tt
falling-within leaves i first (branch l n r) =
    elim (cases_lt i (first + leaf_count l)) [
      | inl lt ↦ subst (Within (2 * first) (2 * (first + (leaf_count l + leaf_count r)))) (sym (falling-left leaves i first l n r lt))
          (within-resolved _ _ (resolution leaves (first + leaf_count l) r) _ _ (omega (arith, leaf_count-positive l)) (omega (arith, leaf_count-positive l, leaf_count-positive r))
          (within-wider (2 * first) (2 * (first + leaf_count l)) (2 * first) (2 * (first + (leaf_count l + leaf_count r))) (omega arith) (omega arith) _ (falling-within leaves i first l)))
      | inr ge ↦ subst (Within (2 * first) (2 * (first + (leaf_count l + leaf_count r)))) (sym (falling-right leaves i first l n r ge))
          (within-resolved _ _ (resolution leaves first l) _ _ (omega (arith, leaf_count-positive l)) (omega (arith, leaf_count-positive l, leaf_count-positive r))
          (within-wider (2 * (first + leaf_count l)) (2 * (first + leaf_count l + leaf_count r)) (2 * first) (2 * (first + (leaf_count l + leaf_count r))) (omega arith) (omega arith) _ (falling-within leaves i (first + leaf_count l) r)))
    ]

-- ---- routes

-- the half away from leaf i of a parent that stands at its place
module _ (t : Tree) (i : ℕ) where
  pub away-left : (first : ℕ) (l : Tree) (n : Option ParentNode) (r : Tree) → subtree_at 0 t (2 * (first + leaf_count l) - 1) ≡ Some (record { first = first; tree = branch l n r })
      → i < first + leaf_count l → away_at t i (2 * (first + leaf_count l) - 1) ≡ Some (record { first = first + leaf_count l; tree = r })
  away-left first l n r e lt =
      ap (option_and_then (λ (s : Subtree). copath_child i s.first s.tree)) e
      ∙ if_less i (first + leaf_count l) (Some (record { first = first + leaf_count l; tree = r })) (Some (record { first = first; tree = l })) lt

  pub away-right : (first : ℕ) (l : Tree) (n : Option ParentNode) (r : Tree) → subtree_at 0 t (2 * (first + leaf_count l) - 1) ≡ Some (record { first = first; tree = branch l n r })
      → first + leaf_count l ≤ i → away_at t i (2 * (first + leaf_count l) - 1) ≡ Some (record { first = first; tree = l })
  away-right first l n r e ge =
      ap (option_and_then (λ (s : Subtree). copath_child i s.first s.tree)) e
      ∙ if_not_less i (first + leaf_count l) (Some (record { first = first + leaf_count l; tree = r })) (Some (record { first = first; tree = l })) ge

-- what is said of a route, if there is one
abbrev pub OfRoute : (PathParents → Type 0) → Option PathParents → Type 0
OfRoute P None = Unit {0}
OfRoute P (Some r) = P r

module _ (H : List ℕ → List ℕ) (t : Tree) (i : ℕ) where
  -- the new parents stand at the places of the path
  pub path_parents-node_indices : (ps : List ℕ) (keys : List (List ℕ)) (hash : List ℕ) → OfRoute (λ r. node_indices_of r.changes ≡ ps) (path_parents H t i ps keys hash)
  path_parents-node_indices [] [] hash = refl
  path_parents-node_indices [] (_ ∷ _) hash = tt
  path_parents-node_indices (p ∷ ps) [] hash = tt
  path_parents-node_indices (p ∷ ps) (key ∷ keys) hash = go (path_hash_at H t i p (path_parent key hash)) (path_parents-node_indices ps keys)
    where
      lower : (o : Option PathParents) → OfRoute (λ r. node_indices_of r.changes ≡ ps) o → OfRoute (λ r. node_indices_of r.changes ≡ p ∷ ps) (option_map (below p (path_parent key hash)) o)
      lower None h = tt
      lower (Some r) h = ap (λ qs. p ∷ qs) h

      go : (o : Option (List ℕ)) → ((h : List ℕ) → OfRoute (λ r. node_indices_of r.changes ≡ ps) (path_parents H t i ps keys h))
          → OfRoute (λ r. node_indices_of r.changes ≡ p ∷ ps) (option_and_then (λ h. option_map (below p (path_parent key hash)) (path_parents H t i ps keys h)) o)
      go None ih = tt
      go (Some h) ih = lower (path_parents H t i ps keys h) (ih h)

  -- what one parent adds, where the rest is known: F makes a value of the route with the parent, G of that below it
  module _ {X : Type 0} (above : Option ParentNode → List ℕ → X → X) (F : PathParents → X) (G : PathParents → X) (node_index first : ℕ) (away : Tree) (lower : List ℕ)
      (rest : List ℕ → List (List ℕ) → Option X)
      (same : (hash : List ℕ) (keys : List (List ℕ)) → rest hash keys ≡ option_map G (path_parents H t i lower keys hash))
      (at : away_at t i node_index ≡ Some (record { first = first; tree = away }))
      (blank : (hash : List ℕ) (r : PathParents) → node_indices_of r.changes ≡ lower → above None hash (G r) ≡ F r)
      (set : (key hash : List ℕ) (r : PathParents) → node_indices_of r.changes ≡ lower → above (Some (path_parent key hash)) hash (G r) ≡ F (below node_index (path_parent key hash) r)) where
    step-blank : (hash : List ℕ) (o : Option PathParents) → OfRoute (λ r. node_indices_of r.changes ≡ lower) o → option_map (above None hash) (option_map G o) ≡ option_map F o
    step-blank hash None h = refl
    step-blank hash (Some r) h = ap Some (blank hash r h)

    step-set : (key hash : List ℕ) (o : Option PathParents) → OfRoute (λ r. node_indices_of r.changes ≡ lower) o
        → option_map (above (Some (path_parent key hash)) hash) (option_map G o) ≡ option_map F (option_map (below node_index (path_parent key hash)) o)
    step-set key hash None h = refl
    step-set key hash (Some r) h = ap Some (set key hash r h)

    step-hashed : (key hash : List ℕ) (keys : List (List ℕ)) (o : Option (List ℕ))
        → option_and_then (λ (h : PathStep). option_map (above h.parent hash) (rest h.hash h.keys)) (option_map (λ h. record { parent = Some (path_parent key hash); hash = h; keys = keys }) o)
        ≡ option_map F (option_and_then (λ h. option_map (below node_index (path_parent key hash)) (path_parents H t i lower keys h)) o)
    step-hashed key hash keys None = refl
    step-hashed key hash keys (Some h) =
        ap (option_map (above (Some (path_parent key hash)) hash)) (same h keys) ∙ step-set key hash (path_parents H t i lower keys h) (path_parents-node_indices lower keys h)

    pub step : (res : List ℕ) (hash : List ℕ) (keys : List (List ℕ))
        → option_and_then (λ (h : PathStep). option_map (above h.parent hash) (rest h.hash h.keys)) (path_step H res first away hash keys)
        ≡ option_map F (path_parents H t i (where_resolved res node_index ++ lower) keys hash)
    step [] hash keys = ap (option_map (above None hash)) (same hash keys) ∙ step-blank hash (path_parents H t i lower keys hash) (path_parents-node_indices lower keys hash)
    step (_ ∷ _) hash [] = refl
    step (_ ∷ _) hash (key ∷ keys) =
        step-hashed key hash keys (path_hash H (path_parent key hash) first away)
        ∙ ap (λ (o : Option Subtree). option_map F (option_and_then (λ h. option_map (below node_index (path_parent key hash)) (path_parents H t i lower keys h)) (option_and_then (λ (s : Subtree). path_hash H (path_parent key hash) s.first s.tree) o))) (sym at)

  -- ---- the merged tree

  -- the tree that a route makes of a subtree whose leaf becomes x
  abbrev pub made : LeafNode → ℕ → Tree → PathParents → Tree
  made x first s r = put_leaf first (changed first (change_above (λ _. None) first s i) r.changes) i (Some x)

  module _ (x : LeafNode) (leaves : ℕ) where
    module _ (first : ℕ) (l : Tree) (n : Option ParentNode) (r : Tree) where
      cleared-left : i < first + leaf_count l → change_above (λ _. None) first (branch l n r) i ≡ branch (change_above (λ _. None) first l i) None r
      cleared-left lt = if_less i (first + leaf_count l) (branch (change_above (λ _. None) first l i) None r) (branch l None (change_above (λ _. None) (first + leaf_count l) r i)) lt

      cleared-right : first + leaf_count l ≤ i → change_above (λ _. None) first (branch l n r) i ≡ branch l None (change_above (λ _. None) (first + leaf_count l) r i)
      cleared-right ge = if_not_less i (first + leaf_count l) (branch (change_above (λ _. None) first l i) None r) (branch l None (change_above (λ _. None) (first + leaf_count l) r i)) ge

      -- the new parents below it, put in
      lower-left : i < first + leaf_count l → (cs : List Change) → Within (2 * first) (2 * (first + leaf_count l)) (node_indices_of cs)
          → changed first (change_above (λ _. None) first (branch l n r) i) cs ≡ branch (changed first (change_above (λ _. None) first l i) cs) None r
      lower-left lt cs w =
          let c = leaf_count-change_above (λ _. None) first l i in
          ap (λ u. changed first u cs) (cleared-left lt)
          ∙ changed-left first (change_above (λ _. None) first l i) None r cs (2 * first) (subst (λ k. Within (2 * first) (2 * (first + k)) (node_indices_of cs)) (sym c) w)

      lower-right : first + leaf_count l ≤ i → (cs : List Change) → Within (2 * (first + leaf_count l)) (2 * (first + leaf_count l + leaf_count r)) (node_indices_of cs)
          → changed first (change_above (λ _. None) first (branch l n r) i) cs ≡ branch l None (changed (first + leaf_count l) (change_above (λ _. None) (first + leaf_count l) r i) cs)
      lower-right ge cs w =
          ap (λ u. changed first u cs) (cleared-right ge)
          ∙ changed-right first l None (change_above (λ _. None) (first + leaf_count l) r i) cs (2 * (first + leaf_count l + leaf_count r)) w

      -- and the leaf
      whole-left : i < first + leaf_count l → (cs : List Change) (p : Option ParentNode)
          → put_leaf first (branch (changed first (change_above (λ _. None) first l i) cs) p r) i (Some x) ≡ branch (put_leaf first (changed first (change_above (λ _. None) first l i) cs) i (Some x)) p r
      whole-left lt cs p =
          let a = leaf_count-changed first (change_above (λ _. None) first l i) cs in
          let b = leaf_count-change_above (λ _. None) first l i in
          let inner = changed first (change_above (λ _. None) first l i) cs in
          if_less i (first + leaf_count inner) (branch (put_leaf first inner i (Some x)) p r) (branch inner p (put_leaf (first + leaf_count inner) r i (Some x))) (omega arith)

      whole-right : first + leaf_count l ≤ i → (u : Tree) (p : Option ParentNode)
          → put_leaf first (branch l p u) i (Some x) ≡ branch l p (put_leaf (first + leaf_count l) u i (Some x))
      whole-right ge u p = if_not_less i (first + leaf_count l) (branch (put_leaf first l i (Some x)) p u) (branch l p (put_leaf (first + leaf_count l) u i (Some x))) ge

      module _ (lt : i < first + leaf_count l) (ps : List ℕ) (w : Within (2 * first) (2 * (first + leaf_count l)) ps) where
        blank-left : (r' : PathParents) → node_indices_of r'.changes ≡ ps → branch (made x first l r') None r ≡ made x first (branch l n r) r'
        blank-left r' e =
            sym (ap (λ u. put_leaf first u i (Some x)) (lower-left lt r'.changes (subst (Within (2 * first) (2 * (first + leaf_count l))) (sym e) w))
            ∙ whole-left lt r'.changes None)

        set-left : (q : ParentNode) (r' : PathParents) → node_indices_of r'.changes ≡ ps
            → branch (made x first l r') (Some q) r ≡ made x first (branch l n r) (below (2 * (first + leaf_count l) - 1) q r')
        set-left q r' e =
            let inner = changed first (change_above (λ _. None) first l i) r'.changes in
            let a = leaf_count-changed first (change_above (λ _. None) first l i) r'.changes in
            let b = leaf_count-change_above (λ _. None) first l i in
            sym (ap (λ u. put_leaf first (put_parent first u (2 * (first + leaf_count l) - 1) (Some q)) i (Some x))
            (lower-left lt r'.changes (subst (Within (2 * first) (2 * (first + leaf_count l))) (sym e) w))
            ∙ ap (λ u. put_leaf first u i (Some x)) (put-here first inner None r (2 * (first + leaf_count l) - 1) (Some q) (omega (arith, leaf_count-positive l)))
            ∙ whole-left lt r'.changes (Some q))

      module _ (ge : first + leaf_count l ≤ i) (ps : List ℕ) (w : Within (2 * (first + leaf_count l)) (2 * (first + leaf_count l + leaf_count r)) ps) where
        blank-right : (r' : PathParents) → node_indices_of r'.changes ≡ ps → branch l None (made x (first + leaf_count l) r r') ≡ made x first (branch l n r) r'
        blank-right r' e =
            sym (ap (λ u. put_leaf first u i (Some x)) (lower-right ge r'.changes (subst (Within (2 * (first + leaf_count l)) (2 * (first + leaf_count l + leaf_count r))) (sym e) w))
            ∙ whole-right ge (changed (first + leaf_count l) (change_above (λ _. None) (first + leaf_count l) r i) r'.changes) None)

        set-right : (q : ParentNode) (r' : PathParents) → node_indices_of r'.changes ≡ ps
            → branch l (Some q) (made x (first + leaf_count l) r r') ≡ made x first (branch l n r) (below (2 * (first + leaf_count l) - 1) q r')
        set-right q r' e =
            let inner = changed (first + leaf_count l) (change_above (λ _. None) (first + leaf_count l) r i) r'.changes in
            sym (ap (λ u. put_leaf first (put_parent first u (2 * (first + leaf_count l) - 1) (Some q)) i (Some x))
            (lower-right ge r'.changes (subst (Within (2 * (first + leaf_count l)) (2 * (first + leaf_count l + leaf_count r))) (sym e) w))
            ∙ ap (λ u. put_leaf first u i (Some x)) (put-here first l None inner (2 * (first + leaf_count l) - 1) (Some q) (omega (arith, leaf_count-positive l)))
            ∙ whole-right ge inner (Some q))

    -- the two ways down of a merge
    abbrev merged-left : ℕ → Tree → Tree → Option PathStep → Option Tree
    merged-left first l r o = option_and_then (λ (h : PathStep). option_map (λ u. branch u h.parent r) (merged_from H leaves first l i x h.hash h.keys)) o

    abbrev merged-right : ℕ → Tree → Tree → Option PathStep → Option Tree
    merged-right first l r o = option_and_then (λ (h : PathStep). option_map (λ u. branch l h.parent u) (merged_from H leaves (first + leaf_count l) r i x h.hash h.keys)) o

    -- a merged subtree is what its route makes of it
    pub merged-path_parents : (first : ℕ) (s : Tree) → subtree_at 0 t (root_node_index first s) ≡ Some (record { first = first; tree = s }) → (hash : List ℕ) (keys : List (List ℕ))
        → merged_from H leaves first s i x hash keys ≡ option_map (made x first s) (path_parents H t i (falling leaves first s i) keys hash)
    merged-path_parents first (leaf y) e hash [] = refl
    merged-path_parents first (leaf y) e hash (_ ∷ _) = refl
    merged-path_parents first (branch l n r) e hash keys =
        elim (cases_lt i (first + leaf_count l)) [
          | inl lt ↦
              if_less i (first + leaf_count l) (merged-left first l r (path_step_at H leaves (first + leaf_count l) r hash keys)) (merged-right first l r (path_step_at H leaves first l hash keys)) lt
              ∙ step (λ q _ u. branch u q r) (made x first (branch l n r)) (made x first l) (2 * (first + leaf_count l) - 1) (first + leaf_count l) r (falling leaves first l i)
              (λ h ks. merged_from H leaves first l i x h ks)
              (merged-path_parents first l (subtree_at-left 0 t (2 * (first + leaf_count l) - 1) first l n r e))
              (away-left t i first l n r e lt)
              (λ _ r' w. blank-left first l n r lt (falling leaves first l i) (falling-within leaves i first l) r' w)
              (λ key h r' w. set-left first l n r lt (falling leaves first l i) (falling-within leaves i first l) (path_parent key h) r' w)
              (resolution leaves (first + leaf_count l) r) hash keys
              ∙ ap (λ ps. option_map (made x first (branch l n r)) (path_parents H t i ps keys hash)) (sym (falling-left leaves i first l n r lt))
          | inr ge ↦
              if_not_less i (first + leaf_count l) (merged-left first l r (path_step_at H leaves (first + leaf_count l) r hash keys)) (merged-right first l r (path_step_at H leaves first l hash keys)) ge
              ∙ step (λ q _ u. branch l q u) (made x first (branch l n r)) (made x (first + leaf_count l) r) (2 * (first + leaf_count l) - 1) first l (falling leaves (first + leaf_count l) r i)
              (λ h ks. merged_from H leaves (first + leaf_count l) r i x h ks)
              (merged-path_parents (first + leaf_count l) r (subtree_at-right 0 t (2 * (first + leaf_count l) - 1) first l n r e))
              (away-right t i first l n r e ge)
              (λ _ r' w. blank-right first l n r ge (falling leaves (first + leaf_count l) r i) (falling-within leaves i (first + leaf_count l) r) r' w)
              (λ key h r' w. set-right first l n r ge (falling leaves (first + leaf_count l) r i) (falling-within leaves i (first + leaf_count l) r) (path_parent key h) r' w)
              (resolution leaves first l) hash keys
              ∙ ap (λ ps. option_map (made x first (branch l n r)) (path_parents H t i ps keys hash)) (sym (falling-right leaves i first l n r ge))
        ]

  -- ---- the hashes that it has to carry

  carried-below : (node_index : ℕ) (q : ParentNode) (r' : PathParents) → carried r' ++ q.parent_hash ∷ [] ≡ carried (below node_index q r')
  carried-below node_index q r' = ap (λ hs. r'.hash ∷ hs) (sym (reverse-append (q.parent_hash ∷ []) (map (λ (c : Change). c.parent.parent_hash) r'.changes)))

  module _ (leaves : ℕ) where
    abbrev hashes-left : ℕ → Tree → List ℕ → Option PathStep → Option (List (List ℕ))
    hashes-left first l hash o = option_and_then (λ (h : PathStep). option_map (append_parent_hash h.parent hash) (hashes_from H leaves first l i h.hash h.keys)) o

    pub hashes-path_parents : (first : ℕ) (s : Tree) → subtree_at 0 t (root_node_index first s) ≡ Some (record { first = first; tree = s }) → (hash : List ℕ) (keys : List (List ℕ))
        → hashes_from H leaves first s i hash keys ≡ option_map carried (path_parents H t i (falling leaves first s i) keys hash)
    hashes-path_parents first (leaf y) e hash [] = refl
    hashes-path_parents first (leaf y) e hash (_ ∷ _) = refl
    hashes-path_parents first (branch l n r) e hash keys =
        elim (cases_lt i (first + leaf_count l)) [
          | inl lt ↦
              if_less i (first + leaf_count l) (hashes-left first l hash (path_step_at H leaves (first + leaf_count l) r hash keys)) (hashes-left (first + leaf_count l) r hash (path_step_at H leaves first l hash keys)) lt
              ∙ step (λ q h hs. append_parent_hash q h hs) carried carried (2 * (first + leaf_count l) - 1) (first + leaf_count l) r (falling leaves first l i)
              (λ h ks. hashes_from H leaves first l i h ks)
              (hashes-path_parents first l (subtree_at-left 0 t (2 * (first + leaf_count l) - 1) first l n r e))
              (away-left t i first l n r e lt)
              (λ _ r' w. refl)
              (λ key h r' w. carried-below (2 * (first + leaf_count l) - 1) (path_parent key h) r')
              (resolution leaves (first + leaf_count l) r) hash keys
              ∙ ap (λ ps. option_map carried (path_parents H t i ps keys hash)) (sym (falling-left leaves i first l n r lt))
          | inr ge ↦
              if_not_less i (first + leaf_count l) (hashes-left first l hash (path_step_at H leaves (first + leaf_count l) r hash keys)) (hashes-left (first + leaf_count l) r hash (path_step_at H leaves first l hash keys)) ge
              ∙ step (λ q h hs. append_parent_hash q h hs) carried carried (2 * (first + leaf_count l) - 1) first l (falling leaves (first + leaf_count l) r i)
              (λ h ks. hashes_from H leaves (first + leaf_count l) r i h ks)
              (hashes-path_parents (first + leaf_count l) r (subtree_at-right 0 t (2 * (first + leaf_count l) - 1) first l n r e))
              (away-right t i first l n r e ge)
              (λ _ r' w. refl)
              (λ key h r' w. carried-below (2 * (first + leaf_count l) - 1) (path_parent key h) r')
              (resolution leaves first l) hash keys
              ∙ ap (λ ps. option_map carried (path_parents H t i ps keys hash)) (sym (falling-right leaves i first l n r ge))
        ]

-- ---- whole trees

-- the parent hashes that a path has to carry, by its route
pub expected-path_parents : (H : List ℕ → List ℕ) (t : Tree) (i : ℕ) (keys : List (List ℕ)) → expected_hashes H t i keys ≡ option_map carried (parents_of_path H t i keys)
expected-path_parents H t i keys = hashes-path_parents H t i (leaf_count t) 0 t (subtree_at-root 0 t) [] (reverse keys)

-- what new parents make of a tree whose leaf becomes x
abbrev tree_of : Tree → ℕ → LeafNode → List Change → Tree
tree_of t i x cs = put_leaf 0 (changed 0 (blank_path t i) cs) i (Some x)

made-changes : (H : List ℕ → List ℕ) (t : Tree) (i : ℕ) (x : LeafNode) (o : Option PathParents) → option_map (made H t i x 0 t) o ≡ option_map (tree_of t i x) (option_map (λ (r : PathParents). r.changes) o)
made-changes H t i x None = refl
made-changes H t i x (Some r) = refl

-- the merged tree, by its new parents
pub merged-changes : (H : List ℕ → List ℕ) (t : Tree) (i : ℕ) (x : LeafNode) (keys : List (List ℕ)) (cs : List Change) → option_map (λ (r : PathParents). r.changes) (parents_of_path H t i keys) ≡ Some cs
    → merged H t i x keys ≡ Some (put_leaf 0 (changed 0 (blank_path t i) cs) i (Some x))
merged-changes H t i x keys cs e =
    merged-path_parents H t i x (leaf_count t) 0 t (subtree_at-root 0 t) [] (reverse keys) ∙ made-changes H t i x (parents_of_path H t i keys) ∙ ap (option_map (tree_of t i x)) e
