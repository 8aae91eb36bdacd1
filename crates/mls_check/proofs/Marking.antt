-- Marks of reached parents, through a walk halves first.
use Rattle.std.proofs.Common.{◌≡◌, ◌≢◌, ℕ, ◌+◌, ◌*◌, ◌<◌, Bool, true, List, Option, Some, None, refl, sym, ap, ◌∙◌, subst, arith, inl, inr, length, is_some}
use Rattle.std.specs.Prelude.{slice_set}
use Rattle.std.proofs.Common.{get_or-set_same, get_or-set_other}
use Rattle.std.proofs.lemmas.Option.{same_Some, none-some}
use Rattle.std.proofs.lemmas.Bool.{cases_order, cases_lt}
use Rattle.mls_nodes.specs.declared.parent.ParentNode.{ParentNode}
use Rattle.mls_tree.specs.Tree.{Tree, leaf, branch, leaf_count, Subtree, subtree_at, root_node_index, root_entry}
use Rattle.mls_tree.proofs.Trees.{subtree_at-stands, subtree_at-root, subtree_at-nested, subtree_at-in_left, subtree_at-in_right}
use Rattle.mls_check.specs.FirstFailureInternal.{IsFirstFailureIn}
use Rattle.mls_tree.specs.NodeView.{HasChildren, parent_of}
use Rattle.mls_check.specs.ParentHashValid.{ParentHashValid, IsParentHashValidAt, IsNonBlankParent, IsParentHashValidHere}
use Rattle.mls_check.specs.ParentHashMarks.{IsMarked, IsMarkedAt, MarksAreValid, AreKept, AreAllMarkedAt, AreAllMarkedUnder}
use Rattle.mls_check.proofs.Outside.{outside_above}

-- an answer that was true exactly where P holds
module _ (H : List ℕ → List ℕ) (t : Tree) (marks : List Bool) where
  -- what is marked in both halves is marked under the parent
  pub under_from_children : (p q u m : ℕ) (n : Option ParentNode) → HasChildren t p q u m n → AreAllMarkedAt H t marks q → AreAllMarkedAt H t marks u → AreAllMarkedUnder H t marks p
  under_from_children p q u m n h left right s e k v ne sub r =
      let st = subtree_at-stands 0 t p _ h.whole in
      let in_top : subtree_at h.first (branch h.left n h.right) k ≡ Some v = subst (λ w. subtree_at w.first w.tree k ≡ Some v) (same_Some _ _ (sym e ∙ h.whole)) sub in
      elim (cases_order (k + 1) (2 * (h.first + leaf_count h.left))) [
        | inl at ↦ absurd (ne (omega (arith, st.node_index)))
        | inr (inl lt) ↦ left _ h.left_child k v (sym (subtree_at-in_left h.first h.left n h.right k lt) ∙ in_top) r
        | inr (inr gt) ↦
            right _ h.right_child k v (sym (subtree_at-in_right h.first h.left n h.right k gt) ∙ in_top) r
      ]

  pub kept-marked : (old : List Bool) (q : ℕ) → AreKept old marks → AreAllMarkedAt H t old q → AreAllMarkedAt H t marks q
  kept-marked old q kept h s e k v sub r = kept k (h s e k v sub r)

  -- the mark of the parent itself
  pub marked-more : (p : ℕ) (b : Bool) → p < length marks → AreAllMarkedUnder H t marks p → (IsParentHashValidHere H t p → b ≡ true) → AreAllMarkedAt H t (slice_set marks p b) p
  marked-more p b l under found s e k v sub r =
      elim (cases_order k p) [
        | inl at ↦
            (let whole : subtree_at 0 t p ≡ Some v = ap (λ w. subtree_at 0 t w) (sym at) ∙ subtree_at-nested 0 t p s e k v sub in
            let f : b ≡ true = found (v, whole, r) in
            subst (λ w. IsMarked (slice_set marks p b) w) (sym at) (rw get_or-set_same f))
        | inr (inl lt) ↦ (let ne : k ≢ p = omega arith in rw get_or-set_other (under s e k v ne sub r))
        | inr (inr gt) ↦ (let ne : k ≢ p = omega arith in rw get_or-set_other (under s e k v ne sub r))
      ]

  -- marks that are sound and whole tell which parents are reached
  pub marks-marked : MarksAreValid H t marks → ((s : Subtree) → subtree_at 0 t (root_node_index 0 t) ≡ Some s → (q : ℕ) (u : Subtree) → subtree_at s.first s.tree q ≡ Some u → ParentHashValid H (leaf_count t) u → IsMarked marks q)
      → (o : Option ℕ) → IsFirstFailureIn (IsMarkedAt t marks) o → IsFirstFailureIn (IsParentHashValidAt H t) o
  marks-marked sound whole o f = go o f
    where
      there : (p : ℕ) → IsMarkedAt t marks p → IsParentHashValidAt H t p
      there p h s e set = sound p (h s e set) s e

      back : (p : ℕ) → IsParentHashValidAt H t p → IsMarkedAt t marks p
      back p h s e set = whole (record { first = 0; tree = t }) (subtree_at-root 0 t) p s e (h s e set)

      go : (o : Option ℕ) → IsFirstFailureIn (IsMarkedAt t marks) o → IsFirstFailureIn (IsParentHashValidAt H t) o
      go None f = λ p. there p (f p)
      go (Some p) f = record { fails = λ h. f.fails (back p h); earlier = λ q l. there q (f.earlier q l) }

parent-set : (s : Subtree) → IsNonBlankParent s.tree → is_some (parent_of (root_entry s.tree)) ≡ true
parent-set s h = go s.tree h
  where
    go : (v : Tree) → IsNonBlankParent v → is_some (parent_of (root_entry v)) ≡ true
    go (leaf _) h = absurd h
    go (branch l None r) h = absurd h
    go (branch l (Some p) r) h = refl

pub marked_everywhere : (t : Tree) (marks : List Bool) (n : ℕ) → n + 1 ≡ 2 * leaf_count t → ((p : ℕ) → p < n → IsMarkedAt t marks p) → (p : ℕ) → IsMarkedAt t marks p
marked_everywhere t marks n e h p s a =
    elim (cases_lt p n) [ inl l ↦ h p l s a | inr g ↦ absurd (none-some s (sym (outside_above t p n e g) ∙ a)) ]
