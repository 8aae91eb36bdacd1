-- What the calls that hash a subtree return.
use Rattle.std.proofs.Common.{◌≡◌, ℕ, ◌+◌, List, [], Option, Some, None, Result, Ok, Err, refl, sym, ap, ◌∙◌}
use Rattle.std.specs.Prelude.{option_map, option_and_then, IfOk}
use Rattle.std.specs.List.Sorted.{IsPermutation}
use Rattle.mls_nodes.specs.declared.leaf.LeafNode.{LeafNode}
use Rattle.mls_nodes.specs.declared.parent.ParentNode.{ParentNode}
use Rattle.mls_tree.specs.Tree.{Tree, leaf, leaf_count, Subtree, subtree_at}
use Rattle.mls_tree.specs.TreeHash.{leaf_tree_hash_input, parent_tree_hash_input, hash_of_parent, tree_hash}
use Rattle.mls_hash.specs.declared.fault.HashFault.{HashFault}
use Rattle.mls_hash.specs.declared.fault.HashFault.TheVariants as faults
use Rattle.mls_hash.specs.WalkResults.{HashesSubtree}
use Rattle.mls_tree.specs.NodeView.{HasChildren}
use Rattle.mls_hash.specs.ChildOnSide.{HasChildOn, child_on}
use Rattle.mls_hash.specs.WithoutLeaves.{strip, stripped_leaf, stripped_parent, original_tree_hash, original_tree_hash_at, tree_hash_at}
use Rattle.mls_hash.specs.declared.side.Side.{Side}
use Rattle.mls_hash.specs.declared.side.Side.TheVariants as sides
use Rattle.mls_hash.specs.ParentHash as parents
use Rattle.mls_hash.proofs.Strips.{leaf_count-strip, strip-none, strip-sorted}

-- a leaf is hashed
pub leaf_answer : (H : List ℕ → List ℕ) (L : List ℕ) (t : Tree) (p number : ℕ) (x y : Option LeafNode) (h : List ℕ)
    → subtree_at 0 t p ≡ Some (record { first = number; tree = leaf x }) → y ≡ stripped_leaf L number x → option_map H (leaf_tree_hash_input number y) ≡ Some h
    → original_tree_hash_at H L t p ≡ Some h
leaf_answer H L t p number x y h e f a =
    ap (option_and_then (λ (s : Subtree). original_tree_hash H L s.first s.tree)) e ∙ ap (λ (z : Option LeafNode). option_map H (leaf_tree_hash_input number z)) (sym f) ∙ a

module _ (t : Tree) (p q u m : ℕ) (n : Option ParentNode) (c : HasChildren t p q u m n) where
  -- the original hash of a parent, from those of its children
  pub whole_hash : (H : List ℕ → List ℕ) (L : List ℕ)
      → original_tree_hash_at H L t p ≡ hash_of_parent H (option_map (stripped_parent L) n) (original_tree_hash_at H L t q) (original_tree_hash_at H L t u)
  whole_hash H L =
      ap (option_and_then (λ (s : Subtree). original_tree_hash H L s.first s.tree)) c.whole
      ∙ ap (λ (k : ℕ). hash_of_parent H (option_map (stripped_parent L) n) (original_tree_hash H L c.first c.left) (tree_hash H (c.first + k) (strip L (c.first + leaf_count c.left) c.right)))
      (leaf_count-strip L c.first c.left)
      ∙ (λ i. hash_of_parent H (option_map (stripped_parent L) n)
      (sym (ap (option_and_then (λ (s : Subtree). original_tree_hash H L s.first s.tree)) c.left_child) i)
      (sym (ap (option_and_then (λ (s : Subtree). original_tree_hash H L s.first s.tree)) c.right_child) i))

  -- a parent is hashed, after its children
  pub parent_answer : (H : List ℕ → List ℕ) (L left right h : List ℕ)
      → original_tree_hash_at H L t q ≡ Some left → original_tree_hash_at H L t u ≡ Some right
      → option_map H (parent_tree_hash_input (option_map (stripped_parent L) n) left right) ≡ Some h
      → original_tree_hash_at H L t p ≡ Some h
  parent_answer H L left right h a b s = whole_hash H L ∙ (λ i. hash_of_parent H (option_map (stripped_parent L) n) (a i) (b i)) ∙ s

  -- a child is refused
  pub left_fault : (hash whole : Option (List ℕ)) (e : HashFault) → HashesSubtree (subtree_at 0 t q) hash (Err e) → HashesSubtree (subtree_at 0 t p) whole (Err e)
  left_fault hash whole faults.UnsupportedSuite a = a
  left_fault hash whole faults.NoSuchNode a = let bad : ◌≡◌ {A = Option Subtree} None (Some (record { first = c.first; tree = c.left })) = sym a ∙ c.left_child in absurd cc
  left_fault hash whole faults.TooLong a = a
  left_fault hash whole faults.OutOfMemory a = a

  pub right_fault : (hash whole : Option (List ℕ)) (e : HashFault) → HashesSubtree (subtree_at 0 t u) hash (Err e) → HashesSubtree (subtree_at 0 t p) whole (Err e)
  right_fault hash whole faults.UnsupportedSuite a = a
  right_fault hash whole faults.NoSuchNode a = let bad : ◌≡◌ {A = Option Subtree} None (Some (record { first = c.first + leaf_count c.left; tree = c.right })) = sym a ∙ c.right_child in absurd cc
  right_fault hash whole faults.TooLong a = a
  right_fault hash whole faults.OutOfMemory a = a

-- ---- the results of the public calls

pub gives_hash : (found : Option Subtree) (hash same : Option (List ℕ)) (r : Result (List ℕ) HashFault) → hash ≡ same → HashesSubtree found hash r → IfOk r (λ h. same ≡ Some h)
gives_hash found hash same (Ok h) e a = sym e ∙ a
gives_hash found hash same (Err f) e a = tt

pub whole_tree : (H : List ℕ → List ℕ) (t : Tree) (p : ℕ) → original_tree_hash_at H [] t p ≡ tree_hash_at H t p
whole_tree H t p = go (subtree_at 0 t p)
  where
    go : (o : Option Subtree) → option_and_then (λ (s : Subtree). original_tree_hash H [] s.first s.tree) o ≡ option_and_then (λ (s : Subtree). tree_hash H s.first s.tree) o
    go None = refl
    go (Some s) = ap (tree_hash H s.first) (strip-none s.first s.tree)

pub sorted_tree : (H : List ℕ → List ℕ) (L M : List ℕ) → IsPermutation L M → (t : Tree) (p : ℕ) → original_tree_hash_at H M t p ≡ original_tree_hash_at H L t p
sorted_tree H L M h t p = go (subtree_at 0 t p)
  where
    go : (o : Option Subtree) → option_and_then (λ (s : Subtree). original_tree_hash H M s.first s.tree) o ≡ option_and_then (λ (s : Subtree). original_tree_hash H L s.first s.tree) o
    go None = refl
    go (Some s) = ap (tree_hash H s.first) (strip-sorted L M h s.first s.tree)

-- the parent hash of a non-blank parent, by the original hash of its child on a side
module _ (H : List ℕ → List ℕ) (t : Tree) (p : ℕ) (side : Side) (child : ℕ) (parent : ParentNode) (c : HasChildOn t p side child parent) where
  side_hash : (s : Side) (original : List ℕ) → original_tree_hash_at H parent.unmerged t (child_on s c.left c.right) ≡ Some original
      → parents.parent_hash_at H t p s ≡ option_map H (parents.parent_hash_input parent original)
  side_hash sides.Left original e =
      ap (option_and_then (λ (s : Subtree). parents.root_parent_hash H sides.Left s.first s.tree)) c.children.whole
      ∙ ap (option_and_then (λ (o : List ℕ). option_map H (parents.parent_hash_input parent o)))
      (sym (ap (option_and_then (λ (s : Subtree). original_tree_hash H parent.unmerged s.first s.tree)) c.children.left_child) ∙ e)
  side_hash sides.Right original e =
      ap (option_and_then (λ (s : Subtree). parents.root_parent_hash H sides.Right s.first s.tree)) c.children.whole
      ∙ ap (option_and_then (λ (o : List ℕ). option_map H (parents.parent_hash_input parent o)))
      (sym (ap (option_and_then (λ (s : Subtree). original_tree_hash H parent.unmerged s.first s.tree)) c.children.right_child) ∙ e)

  pub gives_parent_hash : (L original h : List ℕ) → IsPermutation parent.unmerged L → original_tree_hash_at H L t child ≡ Some original
      → option_map H (parents.parent_hash_input parent original) ≡ Some h
      → parents.parent_hash_at H t p side ≡ Some h
  gives_parent_hash L original h s a b =
      side_hash side original (sym (sorted_tree H parent.unmerged L s t (child_on side c.left c.right)) ∙ ap (original_tree_hash_at H L t) (sym c.here) ∙ a) ∙ b
