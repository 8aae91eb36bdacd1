-- A leaf that is set after the Removes of a list was set before them, to the same.
use Rattle.std.proofs.Common.{◌≡◌, ◌∙◌, ℕ, List, [], ◌∷◌, Some, None, sym, ap, inl, inr}
use Rattle.std.specs.Prelude.{is_some}
use Rattle.std.proofs.lemmas.Bool.{cases_eq}
use Rattle.std.proofs.lemmas.Option.{none-some, same_Some, option_and_then_some, cond_some}
use Rattle.mls_nodes.specs.declared.leaf.LeafNode.{LeafNode}
use Rattle.mls_msgs.specs.declared.proposal.Proposal.{Proposal}
use Rattle.mls_msgs.specs.declared.proposal.Proposal.TheVariants.{Add, Update, Remove, ContextExtensions, PreSharedKey, ReInit, ExternalInit}
use Rattle.mls_tree.specs.Tree.{Tree, leaf_at}
use Rattle.mls_tree.specs.TreeOperations.{put_leaf, blank_path, remove}
use Rattle.mls_tree.proofs.Kept.{leaf_at-truncate}
use Rattle.mls_apply.specs.declared.list_item.ListItem.{ListItem}
use Rattle.mls_apply.specs.AppliedList.{after_remove, after_removes}
use Rattle.mls_apply.proofs.Leaves.{kept_beside, put_there}

module _ (j : ℕ) (x : LeafNode) where
  -- the leaf is set, to this leaf node
  abbrev pub Stood : Tree → Type 0
  Stood t = leaf_at 0 t j ≡ Some x

  pub same_tree : (t u : Tree) → t ≡ u → Stood u → Stood t
  same_tree t u e set = ap (λ (v : Tree). leaf_at 0 v j) e ∙ set

  removed : (p : Proposal) (t u : Tree) → after_remove p t ≡ Some u → Stood u → Stood t
  removed (Add k) t u e set = same_tree t u (same_Some t u e) set
  removed (Update y) t u e set = same_tree t u (same_Some t u e) set
  removed (ContextExtensions es) t u e set = same_tree t u (same_Some t u e) set
  removed (PreSharedKey es) t u e set = same_tree t u (same_Some t u e) set
  removed (ReInit es) t u e set = same_tree t u (same_Some t u e) set
  removed (ExternalInit es) t u e set = same_tree t u (same_Some t u e) set
  removed (Remove k) t u e set =
      let parts = cond_some (is_some (leaf_at 0 t k)) (remove t k) u e in
      let at : Stood (blank_path (put_leaf 0 t k None) k) =
      sym (leaf_at-truncate 0 (blank_path (put_leaf 0 t k None) k) j) ∙ same_tree (remove t k) u parts.1 set in
      elim (cases_eq j k) [
        | inl same ↦ absurd (none-some x (sym (put_there t k j None parts.0 same) ∙ at))
        | inr away ↦ sym (kept_beside t k j None parts.0 away) ∙ at
      ]

  pub removes : (items : List ListItem) (t u : Tree) → after_removes items t ≡ Some u → Stood u → Stood t
  unfolding after_removes
  removes [] t u e set = same_tree t u (same_Some t u e) set
  removes (y ∷ ys) t u e set =
      option_and_then_some (after_removes ys) (after_remove y.proposal t) u e (λ v a b. removed y.proposal t v a (removes ys v u b set))
