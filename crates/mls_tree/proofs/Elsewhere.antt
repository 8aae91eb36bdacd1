-- A change at a node index that the tree does not have.
use Rattle.std.proofs.Common.{◌≡◌, ℕ, ◌+◌, ◌*◌, Option, Some, refl, sym, ap, ◌∙◌, subst, inl, inr}
use Rattle.std.proofs.lemmas.Bool.{cases_order}
use Rattle.mls_nodes.specs.declared.parent.ParentNode.{ParentNode}
use Rattle.mls_tree.specs.Tree.{Tree, leaf, branch, leaf_count, Subtree, subtree_at, IsParent, IsParentNodeIndex}
use Rattle.mls_tree.specs.TreeOperations.{put_parent}
use Rattle.mls_tree.proofs.Choices.{here, before, after}

elsewhere : (first : ℕ) (t : Tree) (p : ℕ) (x : Option ParentNode) → ¬ IsParent (subtree_at first t p) → put_parent first t p x ≡ t
elsewhere first (leaf y) p x h = refl
elsewhere first (branch l n r) p x h =
    let whole : Option Subtree = Some (record { first = first; tree = branch l n r }) in
    let left = subtree_at first l p in
    let right = subtree_at (first + leaf_count l) r p in
    let changed_left = branch (put_parent first l p x) n r in
    let changed_right = branch l n (put_parent (first + leaf_count l) r p x) in
    elim (cases_order (p + 1) (2 * (first + leaf_count l))) [
      | inl at ↦ absurd (h (subst (λ o. IsParent o) (sym (here (p + 1) (2 * (first + leaf_count l)) whole left right at)) tt))
      | inr (inl lt) ↦
          before (p + 1) (2 * (first + leaf_count l)) (branch l x r) changed_left changed_right lt
          ∙ ap (λ v. branch v n r) (elsewhere first l p x (λ w. h (subst (λ o. IsParent o) (sym (before (p + 1) (2 * (first + leaf_count l)) whole left right lt)) w)))
      | inr (inr gt) ↦
          after (p + 1) (2 * (first + leaf_count l)) (branch l x r) changed_left changed_right gt
          ∙ ap (λ v. branch l n v) (elsewhere (first + leaf_count l) r p x (λ w. h (subst (λ o. IsParent o) (sym (after (p + 1) (2 * (first + leaf_count l)) whole left right gt)) w)))
    ]

-- a parent that is put at a node index of no parent changes nothing
pub put_parent-elsewhere : (t : Tree) (p : ℕ) (x : Option ParentNode) → ¬ IsParentNodeIndex t p → put_parent 0 t p x ≡ t
put_parent-elsewhere t p x h = elsewhere 0 t p x h
