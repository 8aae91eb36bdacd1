-- Whether a chain of parent hashes leads to a parent is decided: a step comes from one of finitely many places of a half.
use Rattle.std.proofs.Common.{◌≡◌, ◌≢◌, ℕ, ◌+◌, ◌*◌, ◌<◌, List, Option, Some, None, refl, sym, ◌∙◌, subst, arith, inl, inr, nat_eq}
use Rattle.std.specs.Prelude.{◌⊎◌, ◌↔◌}
use Rattle.std.specs.List.{Contains}
use Rattle.std.proofs.lemmas.Bool.{cases_order}
use Rattle.std.proofs.lemmas.Option.{same_Some, none-some, cond_some}
use Rattle.mls_nodes.specs.declared.parent.ParentNode.{ParentNode}
use Rattle.mls_tree.specs.Tree.{Tree, leaf, branch, leaf_count, Subtree, subtree_at, root_entry}
use Rattle.mls_tree.specs.Paths.{resolution}
use Rattle.mls_tree.proofs.Trees.{subtree_at-stands, subtree_at-here, subtree_at-in_left, subtree_at-in_right, root_node_index-below}
use Rattle.mls_hash.specs.ParentHash.{parent_hash}
use Rattle.mls_check.specs.ParentHashValid.{linked_hash, AreChildren, IsUnmergedUnder, ParentHashLink, ParentHashStep, IsLeaf, ParentHashValid, from_leaf, from_parent, IsNonBlankParent, IsParentHashValidAt}
use Rattle.mls_check.proofs.Decided.{Decided, decided-like, decided-and, decided-or, decided-implies, decided-lt, decided-same, decided-other, decided-contains, decided-agree, decided-all, found_below, above_all, contains-above}
use Rattle.mls_check.proofs.Reaching.{ends, coe_link}

decided-leaf : (t : Tree) → Decided (IsLeaf t)
decided-leaf (leaf x) = inl tt
decided-leaf (branch l p r) = inr (λ h. absurd h)

decided-set : (t : Tree) → Decided (IsNonBlankParent t)
decided-set (leaf x) = inr (λ h. absurd h)
decided-set (branch l None r) = inr (λ h. absurd h)
decided-set (branch l (Some p) r) = inl tt

decided-unmerged : (p : ParentNode) (s : Subtree) (u : ℕ) → Decided (IsUnmergedUnder p s u)
decided-unmerged p s u =
    elim (found_below (λ i. Contains p.unmerged i × ((s.first < i + 1) × (u ≡ 2 * i)))
    (λ i. decided-and (decided-contains p.unmerged i) (decided-and (decided-lt s.first (i + 1)) (decided-same u (2 * i)))) (s.first + leaf_count s.tree)) [
      | inl w ↦ (let parts = w.2 in let low = parts.1.0 in inl (w.0, parts.0, omega arith, w.1, parts.1.1))
      | inr none ↦ inr (λ w. none w.0 w.3 (w.1, (omega (arith, w.2), w.4)))
    ]

module _ (H : List ℕ → List ℕ) (n : ℕ) where
  -- of each parent of a subtree it is decided whether it is reached
  abbrev AreDecided : ℕ → Tree → Type 0
  AreDecided first t = (p : ℕ) (s : Subtree) → subtree_at first t p ≡ Some s → Decided (ParentHashValid H n s)

  -- ---- one half of a parent

  module _ (node : ParentNode) (child other : Subtree) where
    -- what a link asks of the subtree at place b of the half, and that a chain has come to it
    record Linked (b : ℕ) (d : Subtree) : Type 0 where
      hash : List ℕ
      linked : linked_hash (root_entry d.tree) ≡ Some hash
      expected : parent_hash H node other.first other.tree ≡ Some hash
      resolved : Contains (resolution n child.first child.tree) b
      unmerged : (u : ℕ) → (Contains (resolution n child.first child.tree) u × (u ≢ b)) ↔ IsUnmergedUnder node child u
      ended : IsLeaf d.tree ⊎ ParentHashValid H n d

    -- a chain comes to the parent through the half
    abbrev Comes : Type 0
    Comes = (d : Subtree) × ParentHashLink H n node child other d × (IsLeaf d.tree ⊎ ParentHashValid H n d)

    -- it comes by place b
    abbrev ComesBy : ℕ → Type 0
    ComesBy b = (d : Subtree) × (subtree_at child.first child.tree b ≡ Some d) × Linked b d

    decided-rest : (b : ℕ) → Decided ((u : ℕ) → (Contains (resolution n child.first child.tree) u × (u ≢ b)) ↔ IsUnmergedUnder node child u)
    decided-rest b =
        decided-all (λ u. (Contains (resolution n child.first child.tree) u × (u ≢ b)) ↔ IsUnmergedUnder node child u)
        (λ u. let here = decided-and (decided-contains (resolution n child.first child.tree) u) (decided-other u b) in
        let there = decided-unmerged node child u in
        decided-and (decided-implies here there) (decided-implies there here))
        (above_all (resolution n child.first child.tree) + 2 * (child.first + leaf_count child.tree))
        (λ u g. (
          λ w. absurd (omega (arith, contains-above (resolution n child.first child.tree) u w.0)),
          λ w. absurd (omega (arith, w.3, w.4)),
        ))

    decided-linked : (b : ℕ) (d : Subtree) → Decided (IsLeaf d.tree ⊎ ParentHashValid H n d) → Decided (Linked b d)
    decided-linked b d ended =
        elim (decided-agree (linked_hash (root_entry d.tree)) (parent_hash H node other.first other.tree)) [
          | inr m ↦ inr (λ w. m (w.hash, w.linked, w.expected))
          | inl h ↦ elim (decided-contains (resolution n child.first child.tree) b) [
            | inr m ↦ inr (λ w. m w.resolved)
            | inl c ↦ elim (decided-rest b) [
              | inr m ↦ inr (λ w. m w.unmerged)
              | inl u ↦ elim ended [
                | inr m ↦ inr (λ w. m w.ended)
                | inl e ↦ inl (record { hash = h.0; linked = h.1; expected = h.2; resolved = c; unmerged = u; ended = e })
              ]
            ]
          ]
        ]

    decided-by : AreDecided child.first child.tree → (b : ℕ) → Decided (ComesBy b)
    decided-by known b = go (subtree_at child.first child.tree b) refl
      where
        go : (o : Option Subtree) → subtree_at child.first child.tree b ≡ o → Decided (ComesBy b)
        go None e = inr (λ w. none-some w.0 (sym e ∙ w.1))
        go (Some d) e =
            elim (decided-linked b d (decided-or (decided-leaf d.tree) (known b d e))) [
              | inl l ↦ inl (d, e, l)
              | inr m ↦ inr (λ w. m (subst (λ v. Linked b v) (same_Some w.0 d (sym w.1 ∙ e)) w.2))
            ]

    decided-child : AreDecided child.first child.tree → Decided Comes
    decided-child known =
        elim (found_below ComesBy (decided-by known) (2 * (child.first + leaf_count child.tree))) [
          | inl w ↦
              (let by = w.2 in let l = by.2 in
              inl (by.0, record { node_index = w.0; descendant_is = by.1; hash = l.hash; linked = l.linked; expected = l.expected; resolved = l.resolved; unmerged = l.unmerged }, l.ended))
          | inr none ↦
              inr (λ w.
              let k = w.1 in
              let at = subtree_at-stands child.first child.tree k.node_index w.0 k.descendant_is in
              let d = w.0 in
              none k.node_index (omega (arith, at.node_index, at.to_right, root_node_index-below d.first d.tree))
              (w.0, k.descendant_is, record { hash = k.hash; linked = k.linked; expected = k.expected; resolved = k.resolved; unmerged = k.unmerged; ended = w.2 }))
        ]

  -- ---- a parent

  set_top : (s : Subtree) → ParentHashValid H n s → IsNonBlankParent s.tree
  set_top s r = (let w = ends s r in let step = w.1 in go s.first s.tree step.parent step.child step.other step.children)
    where
      go : (first : ℕ) (t : Tree) (p : ParentNode) (child other : Subtree) → AreChildren first t p child other → IsNonBlankParent t
      go first (leaf x) p child other h = absurd h
      go first (branch l None r) p child other h = absurd h
      go first (branch l (Some q) r) p child other h = tt

  module _ (first : ℕ) (l : Tree) (node : ParentNode) (r : Tree) where
    abbrev left_subtree : Subtree
    left_subtree = record { first = first; tree = l }

    abbrev right_subtree : Subtree
    right_subtree = record { first = first + leaf_count l; tree = r }

    abbrev top : Subtree
    top = record { first = first; tree = branch l (Some node) r }

    reach : (child other : Subtree) → AreChildren first (branch l (Some node) r) node child other → Comes node child other → ParentHashValid H n top
    reach child other h w =
        let step : ParentHashStep H n w.0 top = record { parent = node; child = child; other = other; children = h; link = w.1 } in
        elim w.2 [ inl e ↦ from_leaf w.0 top step e | inr c ↦ from_parent w.0 top step c ]

    through : ParentHashValid H n top → Comes node left_subtree right_subtree ⊎ Comes node right_subtree left_subtree
    through c = (let w = ends top c in let step = w.1 in by w.0 step.parent step.child step.other step.children step.link w.2)
      where
        by : (d : Subtree) (p : ParentNode) (child other : Subtree) → AreChildren first (branch l (Some node) r) p child other → ParentHashLink H n p child other d → (IsLeaf d.tree ⊎ ParentHashValid H n d)
            → Comes node left_subtree right_subtree ⊎ Comes node right_subtree left_subtree
        by d p child other (a, inl b) link e = inl (d, coe_link d p child other left_subtree right_subtree (sym a) b.0 b.1 link, e)
        by d p child other (a, inr b) link e = inr (d, coe_link d p child other right_subtree left_subtree (sym a) b.0 b.1 link, e)

    decided-top : AreDecided first l → AreDecided (first + leaf_count l) r → Decided (ParentHashValid H n top)
    decided-top a b =
        decided-like (λ w. elim w [ inl c ↦ reach left_subtree right_subtree (refl, inl (refl, refl)) c | inr c ↦ reach right_subtree left_subtree (refl, inr (refl, refl)) c ]) through
        (decided-or (decided-child node left_subtree right_subtree a) (decided-child node right_subtree left_subtree b))

  decided-root : (first : ℕ) (l : Tree) (o : Option ParentNode) (r : Tree) → AreDecided first l → AreDecided (first + leaf_count l) r
      → Decided (ParentHashValid H n (record { first = first; tree = branch l o r }))
  decided-root first l None r a b = inr (λ c. absurd (set_top (record { first = first; tree = branch l None r }) c))
  decided-root first l (Some node) r a b = decided-top first l node r a b

  pub decided-tree : (first : ℕ) (t : Tree) → AreDecided first t
  decided-tree first (leaf x) p s e =
      let parts = cond_some (nat_eq p (2 * first)) (record { first = first; tree = leaf x }) s e in
      subst (λ v. Decided (ParentHashValid H n v)) parts.1 (inr (λ c. absurd (set_top (record { first = first; tree = leaf x }) c)))
  decided-tree first (branch l o r) p s e =
      elim (cases_order (p + 1) (2 * (first + leaf_count l))) [
        | inl at ↦
            subst (λ v. Decided (ParentHashValid H n v)) (same_Some (record { first = first; tree = branch l o r }) s (sym (subtree_at-here first l o r p at) ∙ e))
            (decided-root first l o r (decided-tree first l) (decided-tree (first + leaf_count l) r))
        | inr (inl low) ↦ decided-tree first l p s (sym (subtree_at-in_left first l o r p low) ∙ e)
        | inr (inr high) ↦ decided-tree (first + leaf_count l) r p s (sym (subtree_at-in_right first l o r p high) ∙ e)
      ]

-- whether the parent at a place is reached
pub decided-parent_hash : (H : List ℕ → List ℕ) (t : Tree) (p : ℕ) → Decided (IsParentHashValidAt H t p)
decided-parent_hash H t p = go (subtree_at 0 t p) refl
  where
    go : (o : Option Subtree) → subtree_at 0 t p ≡ o → Decided (IsParentHashValidAt H t p)
    go None e = inl (λ s f h. absurd (none-some s (sym e ∙ f)))
    go (Some s) e =
        elim (decided-set s.tree) [
          | inr m ↦ inl (λ u f h. absurd (m (subst (λ (v : Subtree). IsNonBlankParent v.tree) (same_Some u s (sym f ∙ e)) h)))
          | inl set ↦ elim (decided-tree H (leaf_count t) 0 t p s e) [
            | inl c ↦ inl (λ u f h. subst (λ v. ParentHashValid H (leaf_count t) v) (same_Some s u (sym e ∙ f)) c)
            | inr m ↦ inr (λ w. m (w s e set))
          ]
        ]
