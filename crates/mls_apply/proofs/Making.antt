-- The new parents of a path, made one after the other from the root down, and then put in place one after the other
-- from the lowest up.
use Rattle.std.proofs.Common.{◌≡◌, ℕ, ◌+◌, ◌*◌, ◌/◌, ◌≤◌, List, [], ◌∷◌, ◌++◌, length, take, get_or, Option, Some, None, refl, sym, ap, ◌∙◌, subst, arith, append_assoc}
use Rattle.std.specs.Prelude.{All, map, option_map, option_and_then, reverse}
use Rattle.std.proofs.lemmas.List.{append-nil, length-append, reverse-append, map-append, take_all, take_more}
use Rattle.std.proofs.lemmas.List.Elements.{All-nil, All-cons, All-head, All-tail, All-pop, All-push, All-weaker}
use Rattle.mls_nodes.specs.declared.parent.ParentNode.{ParentNode}
use Rattle.mls_tree.specs.Tree.{Tree, leaf_count, IsParentNodeIndex}
use Rattle.mls_tree.specs.TreeOperations.{put_parent}
use Rattle.mls_tree.proofs.Kept.{leaf_count-put_parent}
use Rattle.mls_tree.proofs.Lookups.{IsParentNodeIndex-odd, IsParentNodeIndex-bounds}
use Rattle.mls_apply.specs.declared.new_parents.NewParent.{NewParent}
use Rattle.mls_apply.specs.declared.new_parents.NewParents.{NewParents}
use Rattle.mls_apply.specs.MergePath.{path_parent}
use Rattle.mls_apply.specs.PathParents.{Change, PathParents, below, path_parents, changed, path_hash_at}
use Rattle.mls_apply.specs.PathModel.{change_of, path_parents_model}
use Rattle.mls_apply.proofs.Routes.{node_indices_of, OfRoute, path_parents-node_indices}

-- ---- parents made

-- the parents that are made, and then those of a route
abbrev pub joined : List Change → PathParents → PathParents
joined made r = record { changes = made ++ r.changes; hash = r.hash }

-- so many keys are left, the lowest ones; the others have made parents, and the last of these has the hash
pub record IsPartWay (H : List ℕ → List ℕ) (t : Tree) (i : ℕ) (node_indices : List ℕ) (all left : List (List ℕ)) (made : List Change) (hash : List ℕ) : Type 0 where
  pub paired : length left ≤ length node_indices
  pub rest : path_parents H t i (reverse node_indices) (reverse all) [] ≡ option_map (joined made) (path_parents H t i (reverse (take (length left) node_indices)) (reverse left) hash)

nothing_joined : (o : Option PathParents) → o ≡ option_map (joined []) o
nothing_joined None = refl
nothing_joined (Some r) = refl

more_joined : (made : List Change) (node_index : ℕ) (p : ParentNode) (o : Option PathParents)
    → option_map (joined made) (option_map (below node_index p) o) ≡ option_map (joined (made ++ record { node_index = node_index; parent = p } ∷ [])) o
more_joined made node_index p None = refl
more_joined made node_index p (Some r) = ap (λ cs. Some (record { changes = cs; hash = r.hash })) (sym (append_assoc made (record { node_index = node_index; parent = p } ∷ []) r.changes))

module _ (H : List ℕ → List ℕ) (t : Tree) (i : ℕ) (node_indices : List ℕ) where
  pub part_way-start : (all : List (List ℕ)) → length all ≡ length node_indices → IsPartWay H t i node_indices all all [] []
  part_way-start all e = record {
    paired = omega arith;
    rest =
        ap (λ ps. path_parents H t i (reverse ps) (reverse all) []) (sym (take_all (length all) node_indices (omega arith)))
        ∙ nothing_joined (path_parents H t i (reverse (take (length all) node_indices)) (reverse all) []);
  }

  -- the next parent is made
  pub part_way-step : (all left before : List (List ℕ)) (key hash h : List ℕ) (node_index : ℕ) (made : List Change) → before ≡ left ++ key ∷ [] → node_index ≡ get_or node_indices (length left) 0
      → path_hash_at H t i node_index (path_parent key hash) ≡ Some h
      → IsPartWay H t i node_indices all before made hash → IsPartWay H t i node_indices all left (made ++ record { node_index = node_index; parent = path_parent key hash } ∷ []) h
  part_way-step all left before key hash h node_index made split at hashed w =
      let count : length before ≡ length left + 1 = ap length split ∙ length-append left (key ∷ []) in
      let low = w.paired in
      let higher : reverse (take (length before) node_indices) ≡ node_index ∷ reverse (take (length left) node_indices) =
      ap (λ n. reverse (take n node_indices)) count
      ∙ ap reverse (take_more node_indices (length left) 0 (omega arith))
      ∙ reverse-append (take (length left) node_indices) (get_or node_indices (length left) 0 ∷ [])
      ∙ ap (λ p. p ∷ reverse (take (length left) node_indices)) (sym at) in
      let keyed : reverse before ≡ key ∷ reverse left = ap reverse split ∙ reverse-append left (key ∷ []) in
      record {
        paired = omega arith;
        rest =
            w.rest
            ∙ (λ k. option_map (joined made) (path_parents H t i (higher k) (keyed k) hash))
            ∙ ap (λ (o : Option (List ℕ)). option_map (joined made) (option_and_then (λ g. option_map (below node_index (path_parent key hash)) (path_parents H t i (reverse (take (length left) node_indices)) (reverse left) g)) o)) hashed
            ∙ more_joined made node_index (path_parent key hash) (path_parents H t i (reverse (take (length left) node_indices)) (reverse left) h);
      }

  -- all are made
  pub part_way-end : (all left : List (List ℕ)) (made : List Change) (hash : List ℕ) → left ≡ [] → IsPartWay H t i node_indices all left made hash
      → path_parents H t i (reverse node_indices) (reverse all) [] ≡ Some (record { changes = made; hash = hash })
  part_way-end all left made hash none w =
      w.rest ∙ ap (λ (l : List (List ℕ)). option_map (joined made) (path_parents H t i (reverse (take (length l) node_indices)) (reverse l) hash)) none
      ∙ ap (λ cs. Some (record { changes = cs; hash = hash })) (append-nil made)

-- ---- parents put in place

-- the last one goes in first
pub changed-last : (first : ℕ) (t : Tree) (cs : List Change) (c : Change) → changed first t (cs ++ c ∷ []) ≡ changed first (put_parent first t c.node_index (Some c.parent)) cs
changed-last first t [] c = refl
changed-last first t (d ∷ cs) c = ap (λ u. put_parent first u d.node_index (Some d.parent)) (changed-last first t cs c)

-- a tree with as many leaves has parents at the same places
pub IsParentNodeIndex-like : (t u : Tree) → leaf_count u ≡ leaf_count t → (p : ℕ) → IsParentNodeIndex t p → IsParentNodeIndex u p
IsParentNodeIndex-like t u e p h =
    let b = IsParentNodeIndex-bounds t p h in
    let odd : 2 * (p / 2) + 1 ≡ p = omega (arith, b.0) in
    subst (IsParentNodeIndex u) odd (IsParentNodeIndex-odd u (p / 2) (omega (arith, b.1)))

-- the places of the new parents, as those of the route that they make
pub All-node_indices : (P : ℕ → Type 0) (parents : List NewParent) (node_indices : List ℕ) → node_indices_of (map change_of parents) ≡ node_indices → All P node_indices → All (λ p. P p.node_index) parents
All-node_indices P [] node_indices e h = All-nil _
All-node_indices P (p ∷ ps) node_indices e h =
    let g : All P (p.node_index ∷ node_indices_of (map change_of ps)) = subst (All P) (sym e) h in
    All-cons (λ q. P q.node_index) p ps (All-head P p.node_index (node_indices_of (map change_of ps)) g) (All-node_indices P ps (node_indices_of (map change_of ps)) refl (All-tail P p.node_index (node_indices_of (map change_of ps)) g))

-- one more parent is put in place
module _ (t u : Tree) (before after : List NewParent) (p : NewParent) (split : before ≡ after ++ p ∷ []) (put : u ≡ put_parent 0 t p.node_index (Some p.node.value)) where
  pub put-left : changed 0 t (map change_of before) ≡ changed 0 u (map change_of after)
  put-left =
      ap (λ ps. changed 0 t (map change_of ps)) split
      ∙ ap (changed 0 t) (map-append change_of after (p ∷ []))
      ∙ changed-last 0 t (map change_of after) (change_of p)
      ∙ ap (λ v. changed 0 v (map change_of after)) (sym put)

  pub put-parents : All (λ q. IsParentNodeIndex t q.node_index) before → All (λ q. IsParentNodeIndex u q.node_index) after
  put-parents h =
      All-weaker (λ q. IsParentNodeIndex t q.node_index) (λ q. IsParentNodeIndex u q.node_index)
      (λ q. IsParentNodeIndex-like t u (ap leaf_count put ∙ leaf_count-put_parent 0 t p.node_index (Some p.node.value)) q.node_index) after
      ((All-pop (λ q. IsParentNodeIndex t q.node_index) before after (Some p) split h).0)

pub All-reverse : {X : Type 0} (P : X → Type 0) (ps : List X) → All P ps → All P (reverse ps)
All-reverse P [] h = All-nil P
All-reverse P (p ∷ ps) h = subst (All P) (sym (reverse-append (p ∷ []) ps)) (All-push P (reverse ps) p (All-reverse P ps (All-tail P p ps h)) (All-head P p ps h))

-- the new parents of a route stand at its places
pub path_parents-parents : (P : ℕ → Type 0) (H : List ℕ → List ℕ) (t : Tree) (i : ℕ) (node_indices : List ℕ) (keys : List (List ℕ)) (new : NewParents)
    → path_parents H t i (reverse node_indices) (reverse keys) [] ≡ Some (path_parents_model new) → All P node_indices → All (λ p. P p.node_index) new.parents.items
path_parents-parents P H t i node_indices keys new e h =
    All-node_indices P new.parents.items (reverse node_indices)
    (subst (OfRoute (λ r. node_indices_of r.changes ≡ reverse node_indices)) e (path_parents-node_indices H t i (reverse node_indices) (reverse keys) []))
    (All-reverse P node_indices h)
