-- The tree hash of a whole tree, by the place of its root.
use Rattle.std.proofs.Common.{◌≡◌, ℕ, ◌-◌, List, Some, true, Bool, Decides, sym, ap, ◌∙◌}
use Rattle.std.specs.Prelude.{option_and_then}
use Rattle.std.proofs.lemmas.Option.{same_Some}
use Rattle.mls_tree.specs.RatchetTree.{RatchetTree}
use Rattle.mls_tree.specs.Tree.{leaf_count, Subtree, subtree_at}
use Rattle.mls_tree.specs.TreeHash.{tree_hash}
use Rattle.mls_tree.proofs.Trees.{subtree_at-root}
use Rattle.mls_tree.proofs.Coordinates.{root-seen}
use Rattle.mls_hash.specs.WithoutLeaves.{tree_hash_at}

module _ (H : List ℕ → List ℕ) (t : RatchetTree) (n : ℕ) (e : n ≡ leaf_count t.tree) where
  pub whole-hash : tree_hash_at H t.tree (n - 1) ≡ tree_hash H 0 t.tree
  whole-hash =
      ap (λ p. option_and_then (λ (s : Subtree). tree_hash H s.first s.tree) (subtree_at 0 t.tree p)) (root-seen t n (sym e))
      ∙ ap (λ o. option_and_then (λ (s : Subtree). tree_hash H s.first s.tree) o) (subtree_at-root 0 t.tree)

  -- the tree has a hash where its own one is equal to it
  pub same_hash : (own hash : List ℕ) {now : List ℕ} (b : Bool) → tree_hash_at H t.tree (n - 1) ≡ Some own → Decides b (now ≡ hash) → now ≡ own
      → (b ≡ true → tree_hash H 0 t.tree ≡ Some hash) × (tree_hash H 0 t.tree ≡ Some hash → b ≡ true)
  same_hash own hash b h d f =
      let k : tree_hash H 0 t.tree ≡ Some own = sym whole-hash ∙ h in
      (λ w. k ∙ ap Some (sym f ∙ d.0 w), λ w. d.1 (f ∙ same_Some own hash (sym k ∙ w)))
