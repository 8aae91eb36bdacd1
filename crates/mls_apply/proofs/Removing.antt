-- Removes, after the last of which alone the tree is made smaller.
use Rattle.std.proofs.Common.{◌≡◌, ◌∙◌, ℕ, ◌+◌, ◌<◌, ◌≤◌, Bool, true, false, List, ◌∷◌, Option, Some, None, IsSome, drop, length, refl, sym, ap, arith}
use Rattle.std.specs.Prelude.{if◌then◌else◌, is_some, option_and_then}
use Rattle.std.proofs.lemmas.List.{drop_all}
use Rattle.mls_nodes.specs.declared.parent.ParentNode.{ParentNode}
use Rattle.mls_msgs.specs.declared.proposal.Proposal.{Proposal}
use Rattle.mls_msgs.specs.declared.proposal.Proposal.TheVariants.{Add, Update, Remove, ContextExtensions, PreSharedKey, ReInit, ExternalInit}
use Rattle.mls_tree.specs.Tree.{Tree, leaf, branch, leaf_count, leaf_at}
use Rattle.mls_tree.specs.TreeOperations.{put_leaf, change_above, has_non_blank_leaf, truncate, remove}
use Rattle.mls_tree.proofs.Choices.{below}
use Rattle.mls_tree.proofs.Kept.{leaf_at-truncate, leaf_at-none_set, leaf_count-put_leaf}
use Rattle.mls_apply.specs.AppliedList.{after_remove, after_removes}
use Rattle.mls_apply.specs.declared.list_item.ListItem.{ListItem}
use Rattle.mls_apply.proofs.Leaves.{inside_from}

-- the tree made smaller, where it has to be
abbrev pub shrunk_if : Bool → Tree → Tree
shrunk_if true t = truncate t
shrunk_if false t = t

-- a leaf and the parents above it become blank, in a tree whose first leaf is numbered first
abbrev cleared : ℕ → Tree → ℕ → Tree
cleared first t i = change_above (λ _. None) first (put_leaf first t i None) i

-- in the left half
cleared-left : (first : ℕ) (l : Tree) (n : Option ParentNode) (r : Tree) (i : ℕ) → i < first + leaf_count l
    → cleared first (branch l n r) i ≡ branch (cleared first l i) None r
cleared-left first l n r i lt =
    ap (λ t. change_above (λ _. None) first t i)
    (below i (first + leaf_count l) (branch (put_leaf first l i None) n r) (branch l n (put_leaf (first + leaf_count l) r i None)) lt)
    ∙ (let count = leaf_count-put_leaf first l i None in
    below i (first + leaf_count (put_leaf first l i None)) (branch (cleared first l i) None r)
    (branch (put_leaf first l i None) None (change_above (λ _. None) (first + leaf_count (put_leaf first l i None)) r i)) (omega arith))

-- A set leaf is cleared in a tree that was made smaller: to make it smaller after that is the same as to do so once.
pub truncate-cleared : (first : ℕ) (t : Tree) (i : ℕ) → IsSome (leaf_at first t i) → truncate (cleared first (truncate t) i) ≡ truncate (cleared first t i)
truncate-cleared first (leaf x) i set = refl
truncate-cleared first (branch l n r) i set = go (truncate-cleared first l i) (has_non_blank_leaf r) refl
  where
    -- the right half has no set leaf
    go : (IsSome (leaf_at first l i) → truncate (cleared first (truncate l) i) ≡ truncate (cleared first l i))
        → (b : Bool) → has_non_blank_leaf r ≡ b → truncate (cleared first (if b then branch l n r else truncate l) i) ≡ truncate (cleared first (branch l n r) i)
    go in_left true e = refl
    go in_left false e =
        let in_child = inside_from first l n r i set (leaf_at-none_set (first + leaf_count l) r i e) in
        in_left in_child.1
        ∙ sym (ap truncate (cleared-left first l n r i in_child.0) ∙ ap (λ b. if b then branch (cleared first l i) None r else truncate (cleared first l i)) e)

-- ---- a walk along the list

-- a proposal that is no Remove
stays : (p : Proposal) (t : Tree) → ((i : ℕ) → p ≡ Remove i → ⊥) → after_remove p t ≡ Some t
stays (Add k) t none = refl
stays (Update x) t none = refl
stays (Remove i) t none = absurd (none i refl)
stays (ContextExtensions es) t none = refl
stays (PreSharedKey es) t none = refl
stays (ReInit es) t none = refl
stays (ExternalInit es) t none = refl

pub removes-other : (x : ListItem) (xs : List ListItem) (t : Tree) → ((i : ℕ) → x.proposal ≡ Remove i → ⊥) → after_removes (x ∷ xs) t ≡ after_removes xs t
unfolding after_removes
removes-other x xs t none = ap (option_and_then (after_removes xs)) (stays x.proposal t none)

-- a Remove of a set leaf
remove-set : (i : ℕ) (t : Tree) → IsSome (leaf_at 0 t i) → after_remove (Remove i) t ≡ Some (remove t i)
remove-set i t set = ap (λ b. if b then Some (remove t i) else None) set

-- a Remove of another one
remove-blank : (i : ℕ) (t : Tree) → leaf_at 0 t i ≡ None → after_remove (Remove i) t ≡ None
remove-blank i t blank = ap (λ o. if is_some o then Some (remove t i) else None) blank

leaf_at-shrunk_if : (b : Bool) (t : Tree) (i : ℕ) → leaf_at 0 (shrunk_if b t) i ≡ leaf_at 0 t i
leaf_at-shrunk_if true t i = leaf_at-truncate 0 t i
leaf_at-shrunk_if false t i = refl

remove-shrunk_if : (b : Bool) (t : Tree) (i : ℕ) → IsSome (leaf_at 0 t i) → remove (shrunk_if b t) i ≡ truncate (cleared 0 t i)
remove-shrunk_if true t i set = truncate-cleared 0 t i set
remove-shrunk_if false t i set = refl

module _ (x : ListItem) (xs : List ListItem) (b : Bool) (t : Tree) (i : ℕ) (e : x.proposal ≡ Remove i) where
  pub removes-set : IsSome (leaf_at 0 t i) → after_removes (x ∷ xs) (shrunk_if b t) ≡ after_removes xs (truncate (cleared 0 t i))
  unfolding after_removes
  removes-set set =
      ap (λ p. option_and_then (after_removes xs) (after_remove p (shrunk_if b t))) e
      ∙ ap (option_and_then (after_removes xs)) (remove-set i (shrunk_if b t) (ap is_some (leaf_at-shrunk_if b t i) ∙ set))
      ∙ ap (after_removes xs) (remove-shrunk_if b t i set)

  pub removes-blank : leaf_at 0 t i ≡ None → after_removes (x ∷ xs) (shrunk_if b t) ≡ None
  unfolding after_removes
  removes-blank blank =
      ap (λ p. option_and_then (after_removes xs) (after_remove p (shrunk_if b t))) e
      ∙ ap (option_and_then (after_removes xs)) (remove-blank i (shrunk_if b t) (leaf_at-shrunk_if b t i ∙ blank))

-- at the end of the list
pub removes-all : (items : List ListItem) (i : ℕ) (t : Tree) → length items ≤ i → after_removes (drop i items) t ≡ Some t
unfolding after_removes
removes-all items i t past = ap (λ xs. after_removes xs t) (drop_all i items past)
