-- Chains of parent hashes, against the one place of each half that they can come from.
use Rattle.std.proofs.Common.{◌≡◌, ◌≢◌, ℕ, ◌+◌, ◌*◌, ◌-◌, ◌%◌, ◌<◌, ◌≤◌, Bool, true, false, List, [], ◌∷◌, Option, Some, None, refl, sym, ap, ◌∙◌, subst, arith, inl, inr, IsTrue, is_some}
use Rattle.std.specs.Prelude.{◌⊎◌, ◌==◌, option_map, option_and_then}
use Rattle.std.specs.List.{Contains}
use Rattle.std.proofs.lemmas.Option.{same_Some}
use Rattle.std.proofs.lemmas.Bool.{cases_lt, false≢true, eqb-true}
use Rattle.std.proofs.lemmas.List.Elements.{Contains-append_cases, Contains-append_left, Contains-append_right}
use Rattle.mls_nodes.specs.declared.parent.ParentNode.{ParentNode}
use Rattle.mls_tree.specs.Tree.{Tree, leaf, branch, leaf_count, Subtree, subtree_at, root_node_index, entry_of}
use Rattle.mls_tree.specs.Paths.{resolution, resolution_at, unmerged_node_indices}
use Rattle.mls_tree.proofs.Choices.{below, from}
use Rattle.mls_tree.proofs.Trees.{leaf_count-positive, subtree_at-stands, subtree_at-root, subtree_at-nested, subtree_at-some, subtree_at-in_left, subtree_at-in_right, root_node_index-above, root_node_index-below}
use Rattle.mls_hash.specs.ParentHash.{parent_hash, parent_hash_at, root_parent_hash}
use Rattle.mls_hash.specs.declared.side.Side.{Side}
use Rattle.mls_hash.specs.declared.side.Side.TheVariants.{Left, Right}
use Rattle.mls_check.specs.UnmergedLists.{is_unmerged_in_all, is_consistent, is_blank_or_lists, HasConsistentUnmerged}
use Rattle.mls_tree.specs.NodeView.{HasChildren}
use Rattle.mls_check.specs.ParentHashValid.{linked_hash, AreChildren, IsUnmergedUnder, ParentHashLink, ParentHashStep, IsLeaf, ParentHashValid, from_leaf, from_parent, IsParentHashValidHere}
use Rattle.mls_check.specs.ParentHashMarks.{IsOnlyUnlisted, IsMarked, IsChainEnd, IsChainPredecessorIn, HasParentHash, MarksAreValid, AreAllMarkedUnder}
use Rattle.mls_check.proofs.Lone.{lone_once}
use Rattle.mls_check.proofs.Elements.{contains-nil, contains-cons, contains-head, contains-tail, contains-found, all-each, and-left, and-right, unmerged-in, unmerged-listed}

-- ---- entered leaves

-- an entered leaf lies under the parent
pub entered-range : (i first : ℕ) (t : Tree) → IsTrue (is_unmerged_in_all i first t) → (first ≤ i) × (i < first + leaf_count t)
entered-range i first (leaf x) h = let e = eqb-true i first (and-left (i == first) (is_some x) h) in (omega arith, omega arith)
entered-range i first (branch l p r) h =
    let g = and-right (is_blank_or_lists p i) _ h in
    elim (cases_lt i (first + leaf_count l)) [
      | inl a ↦
          (let k = entered-range i first l (sym (below i (first + leaf_count l) (is_unmerged_in_all i first l) (is_unmerged_in_all i (first + leaf_count l) r) a) ∙ g) in
          (k.0, omega (arith, k.1)))
      | inr b ↦
          (let k = entered-range i (first + leaf_count l) r (sym (from i (first + leaf_count l) (is_unmerged_in_all i first l) (is_unmerged_in_all i (first + leaf_count l) r) b) ∙ g) in
          (omega (arith, k.0), omega (arith, k.1)))
    ]

-- an entered leaf is in the resolution
pub entered-resolved : (n i first : ℕ) (t : Tree) → i < n → IsTrue (is_unmerged_in_all i first t) → Contains (resolution n first t) (2 * i)
entered-resolved n i first (leaf None) l h = absurd (false≢true (and-right (i == first) false h))
entered-resolved n i first (leaf (Some x)) l h =
    let e : first ≡ i = sym (eqb-true i first (and-left (i == first) true h)) in
    subst (λ v. Contains ((2 * first) ∷ []) (2 * v)) e (contains-head (2 * first) [])
entered-resolved n i first (branch l None r) lt h =
    elim (cases_lt i (first + leaf_count l)) [
      | inl a ↦
          Contains-append_left (resolution n first l) (resolution n (first + leaf_count l) r) (2 * i)
          (entered-resolved n i first l lt (sym (below i (first + leaf_count l) (is_unmerged_in_all i first l) (is_unmerged_in_all i (first + leaf_count l) r) a) ∙ h))
      | inr b ↦
          Contains-append_right (resolution n first l) (resolution n (first + leaf_count l) r) (2 * i)
          (entered-resolved n i (first + leaf_count l) r lt (sym (from i (first + leaf_count l) (is_unmerged_in_all i first l) (is_unmerged_in_all i (first + leaf_count l) r) b) ∙ h))
    ]
entered-resolved n i first (branch l (Some p) r) lt h =
    contains-tail (2 * (first + leaf_count l) - 1) (unmerged_node_indices n p.unmerged) (2 * i)
    (unmerged-in n p.unmerged i (contains-found p.unmerged i (and-left (is_blank_or_lists (Some p) i) _ h)) lt)

-- ---- resolutions

-- the lists of a subtree are placed
abbrev pub ConsistentIn : ℕ → Tree → Type 0
ConsistentIn first t = (p : ℕ) (s : Subtree) → subtree_at first t p ≡ Some s → IsTrue (is_consistent s.first s.tree)

pub in_left : (first : ℕ) (l : Tree) (n : Option ParentNode) (r : Tree) (p : ℕ) (s : Subtree) → subtree_at first l p ≡ Some s → subtree_at first (branch l n r) p ≡ Some s
in_left first l n r p s e =
    let at = subtree_at-stands first l p s e in
    subtree_at-in_left first l n r p (omega (arith, at.node_index, at.to_right, root_node_index-below s.first s.tree)) ∙ e

pub in_right : (first : ℕ) (l : Tree) (n : Option ParentNode) (r : Tree) (p : ℕ) (s : Subtree) → subtree_at (first + leaf_count l) r p ≡ Some s → subtree_at first (branch l n r) p ≡ Some s
in_right first l n r p s e =
    let at = subtree_at-stands (first + leaf_count l) r p s e in
    subtree_at-in_right first l n r p (omega (arith, at.node_index, at.from_left, root_node_index-above s.first s.tree)) ∙ e

entry-entered : (first : ℕ) (l : Tree) (p : ParentNode) (r : Tree) → ConsistentIn first (branch l (Some p) r) → (i : ℕ) → Contains p.unmerged i → IsTrue (is_unmerged_in_all i first (branch l None r))
entry-entered first l p r h i c =
    all-each (λ i. is_unmerged_in_all i first (branch l None r)) p.unmerged i
    (h (root_node_index first (branch l (Some p) r)) (record { first = first; tree = branch l (Some p) r }) (subtree_at-root first (branch l (Some p) r))) c

-- the resolution of a subtree lies in it
pub resolution-inside : (n first : ℕ) (t : Tree) → ConsistentIn first t → (u : ℕ) → Contains (resolution n first t) u → (2 * first ≤ u) × (u + 1 < 2 * (first + leaf_count t))
resolution-inside n first (leaf None) h u c = absurd (contains-nil u c)
resolution-inside n first (leaf (Some x)) h u c =
    elim (contains-cons (2 * first) [] u c) [ inl e ↦ (omega arith, omega arith) | inr d ↦ absurd (contains-nil u d) ]
resolution-inside n first (branch l None r) h u c =
    elim (Contains-append_cases (resolution n first l) (resolution n (first + leaf_count l) r) u c) [
      | inl a ↦
          (let k = resolution-inside n first l (λ p s e. h p s (in_left first l None r p s e)) u a in
          (k.0, omega (arith, k.1, leaf_count-positive r)))
      | inr b ↦
          (let k = resolution-inside n (first + leaf_count l) r (λ p s e. h p s (in_right first l None r p s e)) u b in
          (omega (arith, k.0), omega (arith, k.1)))
    ]
resolution-inside n first (branch l (Some p) r) h u c =
    elim (contains-cons (2 * (first + leaf_count l) - 1) (unmerged_node_indices n p.unmerged) u c) [
      | inl e ↦ (omega (arith, leaf_count-positive l), omega (arith, leaf_count-positive l, leaf_count-positive r))
      | inr d ↦
          (let w = unmerged-listed n p.unmerged u d in
          let k = entered-range w.0 first (branch l None r) (entry-entered first l p r h w.0 w.1) in
          let e = w.2 in
          (omega (arith, k.0), omega (arith, k.1)))
    ]

-- ---- places

leaf-even : (first : ℕ) (t : Tree) → IsLeaf t → root_node_index first t % 2 ≡ 0
leaf-even first (leaf x) h = omega arith
leaf-even first (branch l p r) h = absurd h

even-leaf : (first : ℕ) (t : Tree) → root_node_index first t % 2 ≡ 0 → IsLeaf t
even-leaf first (leaf x) h = tt
even-leaf first (branch l p r) h = absurd (omega (arith, leaf_count-positive l))

-- the steps that a chain to the parent on top can come by
pub ends : {H : List ℕ → List ℕ} {n : ℕ} (s : Subtree) → ParentHashValid H n s → (d : Subtree) × ParentHashStep H n d s × (IsLeaf d.tree ⊎ ParentHashValid H n d)
ends _ (from_leaf d a step l) = (d, step, inl l)
ends _ (from_parent d a step r) = (d, step, inr r)

-- ---- one half of a parent

module _ (H : List ℕ → List ℕ) (t : Tree) (node : ParentNode) (child other : Subtree) (c : ℕ)
    (at : subtree_at 0 t c ≡ Some child)
    (consistent : HasConsistentUnmerged t)
    (entered : (i : ℕ) → Contains node.unmerged i → child.first ≤ i → i < child.first + leaf_count child.tree → IsTrue (is_unmerged_in_all i child.first child.tree)) where
  consistent-child : ConsistentIn child.first child.tree
  consistent-child p s e = consistent p s (subtree_at-nested 0 t c child at p s e)

  -- what a link says of the resolution
  link-lone : (d : Subtree) (k : ParentHashLink H (leaf_count t) node child other d) → IsOnlyUnlisted node.unmerged (resolution (leaf_count t) child.first child.tree) k.node_index
  link-lone d k = record {
    here = k.resolved;
    unlisted = λ w.
        let st = subtree_at-stands child.first child.tree k.node_index d k.descendant_is in
        let e = w.2 in
        let lo : child.first ≤ w.0 = omega (arith, st.node_index, st.from_left, root_node_index-above d.first d.tree) in
        let hi : w.0 < child.first + leaf_count child.tree = omega (arith, st.node_index, st.to_right, root_node_index-below d.first d.tree) in
        ((k.unmerged k.node_index).1 (w.0, w.1, lo, hi, w.2)).1 refl;
    others = λ u m ne. let w = (k.unmerged u).0 (m, ne) in (w.0, w.1, w.4);
  }

  lone-unmerged : (p : ℕ) → IsOnlyUnlisted node.unmerged (resolution (leaf_count t) child.first child.tree) p
      → (u : ℕ) → ((Contains (resolution (leaf_count t) child.first child.tree) u × (u ≢ p)) → IsUnmergedUnder node child u) × (IsUnmergedUnder node child u → (Contains (resolution (leaf_count t) child.first child.tree) u × (u ≢ p)))
  lone-unmerged p h u = (
    λ m. let w = h.others u m.0 m.1 in
        let k = resolution-inside (leaf_count t) child.first child.tree consistent-child u m.0 in
        let e = w.2 in
        (w.0, w.1, omega (arith, k.0), omega (arith, k.1), w.2),
    λ w. let st = subtree_at-stands 0 t c child at in
        let hi = w.3 in (
          subst (λ v. Contains (resolution (leaf_count t) child.first child.tree) v) (sym w.4)
              (entered-resolved (leaf_count t) w.0 child.first child.tree (omega (arith, st.to_right)) (entered w.0 w.1 w.2 w.3)),
          λ e. h.unlisted (w.0, w.1, sym e ∙ w.4),
        ),
  )

  module _ (p : ℕ) (side : Side) (hashed : parent_hash_at H t p side ≡ parent_hash H node other.first other.tree) (marks : List Bool) where
    -- a candidate that carries the parent hash is a link
    pub linked-up : MarksAreValid H t marks → (o : Option ℕ) → IsChainPredecessorIn t node.unmerged c marks o → HasParentHash H t p side o
        → (d : Subtree) × ParentHashLink H (leaf_count t) node child other d × (IsLeaf d.tree ⊎ ParentHashValid H (leaf_count t) d)
    linked-up sound None k h = absurd h
    linked-up sound (Some b) k h =
        let same : k.node_indices ≡ resolution (leaf_count t) child.first child.tree = same_Some _ _ (sym k.resolved ∙ ap (λ o. option_map (λ (s : Subtree). resolution (leaf_count t) s.first s.tree) o) at) in
        let lone = subst (λ ps. IsOnlyUnlisted node.unmerged ps b) same k.lone in
        let inside = resolution-inside (leaf_count t) child.first child.tree consistent-child b lone.here in
        let d = subtree_at-some child.first child.tree b inside.0 inside.1 in
        let whole : subtree_at 0 t b ≡ Some d.0 = subtree_at-nested 0 t c child at b d.0 d.1 in (
          d.0,
          record {
            node_index = b;
            descendant_is = d.1;
            hash = h.0;
            linked = ap (λ o. linked_hash (entry_of o)) (sym whole) ∙ h.1;
            expected = sym hashed ∙ h.2;
            resolved = lone.here;
            unmerged = lone-unmerged b lone;
          },
          elim k.ended [
            | inl e ↦ inl (even-leaf d.0.first d.0.tree (subst (λ v. v % 2 ≡ 0) (subtree_at-stands 0 t b d.0 whole).node_index e))
            | inr m ↦ inr (sound b m d.0 whole)
          ],
        )

    -- the candidate of a half that a link comes from carries the parent hash
    pub linked-down : ((q : ℕ) (v : Subtree) → subtree_at child.first child.tree q ≡ Some v → ParentHashValid H (leaf_count t) v → IsMarked marks q)
        → (o : Option ℕ) → IsChainPredecessorIn t node.unmerged c marks o
        → (d : Subtree) → ParentHashLink H (leaf_count t) node child other d → (IsLeaf d.tree ⊎ ParentHashValid H (leaf_count t) d) → HasParentHash H t p side o
    linked-down marked o k d link e = go o k
      where
        whole : subtree_at 0 t link.node_index ≡ Some d
        whole = subtree_at-nested 0 t c child at link.node_index d link.descendant_is

        ended : (IsLeaf d.tree ⊎ ParentHashValid H (leaf_count t) d) → IsChainEnd marks link.node_index
        ended (inl l) = inl (subst (λ v. v % 2 ≡ 0) (sym (subtree_at-stands 0 t link.node_index d whole).node_index) (leaf-even d.first d.tree l))
        ended (inr r) = inr (marked link.node_index d link.descendant_is r)

        known : resolution_at t c ≡ Some (resolution (leaf_count t) child.first child.tree)
        known = ap (λ o. option_map (λ (s : Subtree). resolution (leaf_count t) s.first s.tree) o) at

        carries : HasParentHash H t p side (Some link.node_index)
        carries = (link.hash, ap (λ o. linked_hash (entry_of o)) whole ∙ link.linked, hashed ∙ link.expected)

        go : (o : Option ℕ) → IsChainPredecessorIn t node.unmerged c marks o → HasParentHash H t p side o
        go None k = absurd (k link.node_index (record { node_indices = resolution (leaf_count t) child.first child.tree; resolved = known; lone = link-lone d link; ended = ended e }))
        go (Some b) k =
            let same : k.node_indices ≡ resolution (leaf_count t) child.first child.tree = same_Some _ _ (sym k.resolved ∙ known) in
            let lone = link-lone d link in
            let here = subst (λ ps. IsOnlyUnlisted node.unmerged ps b) same k.lone in
            subst (λ v. HasParentHash H t p side (Some v)) (sym (lone_once node.unmerged _ b link.node_index here lone.here lone.unlisted)) carries

-- a link between equal parts
pub coe_link : {H : List ℕ → List ℕ} {n : ℕ} (d : Subtree) (a : ParentNode) (child other : Subtree) {b : ParentNode} (x y : Subtree) → a ≡ b → child ≡ x → other ≡ y → ParentHashLink H n a child other d → ParentHashLink H n b x y d
coe_link {H} {n} d a child other x y e f g link = subst (λ v. v) (λ i. ParentHashLink H n (e i) (f i) (g i) d) link

-- ---- a set parent

module _ (H : List ℕ → List ℕ) (t : Tree) (p q u m : ℕ) (node : ParentNode) (h : HasChildren t p q u m (Some node)) (consistent : HasConsistentUnmerged t) (marks : List Bool) where
  top : Subtree
  top = record { first = h.first; tree = branch h.left (Some node) h.right }

  all-entered : (i : ℕ) → Contains node.unmerged i → IsTrue (is_unmerged_in_all i h.first (branch h.left None h.right))
  all-entered i c = all-each (λ i. is_unmerged_in_all i h.first (branch h.left None h.right)) node.unmerged i (consistent p _ h.whole) c

  entered-left : (i : ℕ) → Contains node.unmerged i → h.first ≤ i → i < h.first + leaf_count h.left → IsTrue (is_unmerged_in_all i h.first h.left)
  entered-left i c lo hi =
      sym (below i (h.first + leaf_count h.left) (is_unmerged_in_all i h.first h.left) (is_unmerged_in_all i (h.first + leaf_count h.left) h.right) hi) ∙ all-entered i c

  entered-right : (i : ℕ) → Contains node.unmerged i → h.first + leaf_count h.left ≤ i → i < h.first + leaf_count h.left + leaf_count h.right
      → IsTrue (is_unmerged_in_all i (h.first + leaf_count h.left) h.right)
  entered-right i c lo hi =
      sym (from i (h.first + leaf_count h.left) (is_unmerged_in_all i h.first h.left) (is_unmerged_in_all i (h.first + leaf_count h.left) h.right) lo) ∙ all-entered i c

  hashed-right : parent_hash_at H t p Right ≡ parent_hash H node (h.first + leaf_count h.left) h.right
  hashed-right = ap (λ o. option_and_then (λ (s : Subtree). root_parent_hash H Right s.first s.tree) o) h.whole

  hashed-left : parent_hash_at H t p Left ≡ parent_hash H node h.first h.left
  hashed-left = ap (λ o. option_and_then (λ (s : Subtree). root_parent_hash H Left s.first s.tree) o) h.whole

  -- a chain that comes through the left half
  pub marks-left : MarksAreValid H t marks → (o : Option ℕ) → IsChainPredecessorIn t node.unmerged q marks o → HasParentHash H t p Right o → IsParentHashValidHere H t p
  marks-left sound o k c =
      let l = linked-up H t node (record { first = h.first; tree = h.left }) (record { first = h.first + leaf_count h.left; tree = h.right }) q h.left_child consistent entered-left p Right hashed-right marks sound o k c in
      let step : ParentHashStep H (leaf_count t) l.0 (record { first = h.first; tree = branch h.left (Some node) h.right }) = record {
        parent = node;
        child = record { first = h.first; tree = h.left };
        other = record { first = h.first + leaf_count h.left; tree = h.right };
        children = (refl, inl (refl, refl));
        link = l.1;
      } in (
        record { first = h.first; tree = branch h.left (Some node) h.right },
        h.whole,
        elim l.2 [ inl e ↦ from_leaf l.0 _ step e | inr r ↦ from_parent l.0 _ step r ],
      )

  -- and one through the right half
  pub marks-right : MarksAreValid H t marks → (o : Option ℕ) → IsChainPredecessorIn t node.unmerged u marks o → HasParentHash H t p Left o → IsParentHashValidHere H t p
  marks-right sound o k c =
      let l = linked-up H t node (record { first = h.first + leaf_count h.left; tree = h.right }) (record { first = h.first; tree = h.left }) u h.right_child consistent entered-right p Left hashed-left marks sound o k c in
      let step : ParentHashStep H (leaf_count t) l.0 (record { first = h.first; tree = branch h.left (Some node) h.right }) = record {
        parent = node;
        child = record { first = h.first + leaf_count h.left; tree = h.right };
        other = record { first = h.first; tree = h.left };
        children = (refl, inr (refl, refl));
        link = l.1;
      } in (
        record { first = h.first; tree = branch h.left (Some node) h.right },
        h.whole,
        elim l.2 [ inl e ↦ from_leaf l.0 _ step e | inr r ↦ from_parent l.0 _ step r ],
      )

  left-marked : AreAllMarkedUnder H t marks p → (k : ℕ) (v : Subtree) → subtree_at h.first h.left k ≡ Some v → ParentHashValid H (leaf_count t) v → IsMarked marks k
  left-marked under k v e r =
      let st = subtree_at-stands 0 t p _ h.whole in
      let at = subtree_at-stands h.first h.left k v e in
      under _ h.whole k v (λ d. omega (arith, st.node_index, at.node_index, at.to_right, root_node_index-below v.first v.tree))
      (in_left h.first h.left (Some node) h.right k v e) r

  right-marked : AreAllMarkedUnder H t marks p → (k : ℕ) (v : Subtree) → subtree_at (h.first + leaf_count h.left) h.right k ≡ Some v → ParentHashValid H (leaf_count t) v → IsMarked marks k
  right-marked under k v e r =
      let st = subtree_at-stands 0 t p _ h.whole in
      let at = subtree_at-stands (h.first + leaf_count h.left) h.right k v e in
      under _ h.whole k v (λ d. omega (arith, st.node_index, at.node_index, at.from_left, root_node_index-above v.first v.tree, leaf_count-positive h.left))
      (in_right h.first h.left (Some node) h.right k v e) r

  -- a chain to the parent comes through one of its halves
  pub marks-through : AreAllMarkedUnder H t marks p
      → (o : Option ℕ) → IsChainPredecessorIn t node.unmerged q marks o → (o' : Option ℕ) → IsChainPredecessorIn t node.unmerged u marks o'
      → IsParentHashValidHere H t p → HasParentHash H t p Right o ⊎ HasParentHash H t p Left o'
  marks-through under o k o' k' w =
      let same = same_Some _ _ (sym w.1 ∙ h.whole) in
      let e = ends (record { first = h.first; tree = branch h.left (Some node) h.right }) (subst (λ s. ParentHashValid H (leaf_count t) s) same w.2) in
      by e.0 e.1.parent e.1.child e.1.other e.1.children e.1.link e.2
    where
      by : (d : Subtree) (n : ParentNode) (child other : Subtree) → AreChildren h.first (branch h.left (Some node) h.right) n child other → ParentHashLink H (leaf_count t) n child other d
          → (IsLeaf d.tree ⊎ ParentHashValid H (leaf_count t) d) → HasParentHash H t p Right o ⊎ HasParentHash H t p Left o'
      by d n child other (a, inl b) link e =
          inl (linked-down H t node (record { first = h.first; tree = h.left }) (record { first = h.first + leaf_count h.left; tree = h.right }) q h.left_child consistent entered-left p Right hashed-right marks
          (left-marked under) o k d (coe_link d n child other _ _ (sym a) b.0 b.1 link) e)
      by d n child other (a, inr b) link e =
          inr (linked-down H t node (record { first = h.first + leaf_count h.left; tree = h.right }) (record { first = h.first; tree = h.left }) u h.right_child consistent entered-right p Left hashed-left marks
          (right-marked under) o' k' d (coe_link d n child other _ _ (sym a) b.0 b.1 link) e)

pub other_way : {P Q : Type 0} → ¬ P → P ⊎ Q → Q
other_way n (inl p) = absurd (n p)
other_way n (inr q) = q

-- no chain comes through halves that have no candidate
pub no_way : (H : List ℕ → List ℕ) (t : Tree) (p : ℕ) (o o' : Option ℕ) → is_some o ≡ false → is_some o' ≡ false → HasParentHash H t p Right o ⊎ HasParentHash H t p Left o' → ⊥
no_way H t p None None e f (inl h) = h
no_way H t p None None e f (inr h) = h
no_way H t p None (Some b) e f h = false≢true (sym f)
no_way H t p (Some b) o' e f h = false≢true (sym e)
