-- How many leaves are set after a change.
use Rattle.std.proofs.Common.{◌≡◌, ◌∙◌, ℕ, zero, suc, ◌+◌, ◌<◌, ◌≤◌, Bool, true, false, Option, Some, None, IsSome, refl, sym, ap, inl, inr, arith}
use Rattle.std.specs.Prelude.{nat_lt, if◌then◌else◌}
use Rattle.std.proofs.lemmas.Bool.{cases_lt, false≢true}
use Rattle.std.proofs.lemmas.Option.{none-some}
use Rattle.mls_nodes.specs.declared.leaf.LeafNode.{LeafNode}
use Rattle.mls_nodes.specs.declared.parent.ParentNode.{ParentNode}
use Rattle.mls_tree.specs.Tree.{Tree, leaf, branch, height, leaf_count, member_count, leaf_at}
use Rattle.mls_tree.specs.BlankLeaves.{first_of, first_blank_leaf}
use Rattle.mls_tree.specs.TreeOperations.{put_leaf, change_above, blank_tree, extend, has_non_blank_leaf, truncate}
use Rattle.mls_tree.proofs.Choices.{below, from, same}
use Rattle.mls_tree.proofs.Kept.{either, or_none}

pub member_count-change_above : (f : Option ParentNode → Option ParentNode) (first : ℕ) (t : Tree) (i : ℕ) → member_count (change_above f first t i) ≡ member_count t
member_count-change_above f first (leaf x) i = refl
member_count-change_above f first (branch l n r) i =
    either (λ t. member_count t ≡ member_count l + member_count r) (nat_lt i (first + leaf_count l)) (branch (change_above f first l i) (f n) r) (branch l (f n) (change_above f (first + leaf_count l) r i))
    (ap (λ k. k + member_count r) (member_count-change_above f first l i))
    (ap (λ k. member_count l + k) (member_count-change_above f (first + leaf_count l) r i))

-- a blank leaf is set
pub member_count-put_leaf : (first : ℕ) (t : Tree) (i : ℕ) (x : LeafNode) → first ≤ i → i < first + leaf_count t → leaf_at first t i ≡ None
    → member_count (put_leaf first t i (Some x)) ≡ member_count t + 1
member_count-put_leaf first (leaf None) i x a b e = refl
member_count-put_leaf first (leaf (Some y)) i x a b e = absurd (none-some y (sym e ∙ same i first (Some y) None (omega arith)))
member_count-put_leaf first (branch l n r) i x a b e =
    elim (cases_lt i (first + leaf_count l)) [
      | inl lt ↦
          (let blank = sym (below i (first + leaf_count l) (leaf_at first l i) (leaf_at (first + leaf_count l) r i) lt) ∙ e in
          let more = member_count-put_leaf first l i x a lt blank in
          ap member_count (below i (first + leaf_count l) (branch (put_leaf first l i (Some x)) n r) (branch l n (put_leaf (first + leaf_count l) r i (Some x))) lt)
          ∙ (let sum : member_count (put_leaf first l i (Some x)) + member_count r ≡ member_count l + member_count r + 1 = omega arith in sum))
      | inr ge ↦
          (let blank = sym (from i (first + leaf_count l) (leaf_at first l i) (leaf_at (first + leaf_count l) r i) ge) ∙ e in
          let more = member_count-put_leaf (first + leaf_count l) r i x ge (omega arith) blank in
          ap member_count (from i (first + leaf_count l) (branch (put_leaf first l i (Some x)) n r) (branch l n (put_leaf (first + leaf_count l) r i (Some x))) ge)
          ∙ (let sum : member_count l + member_count (put_leaf (first + leaf_count l) r i (Some x)) ≡ member_count l + member_count r + 1 = omega arith in sum))
    ]

member_count-blank_tree : (h : ℕ) → member_count (blank_tree h) ≡ 0
member_count-blank_tree zero = refl
member_count-blank_tree (suc h) = let e = member_count-blank_tree h in omega arith

pub member_count-extend : (t : Tree) → member_count (extend t) ≡ member_count t
member_count-extend t = let e = member_count-blank_tree (height t) in omega arith

both_none : (a b : Option ℕ) → first_of a b ≡ None → (a ≡ None) × (b ≡ None)
both_none None b e = (refl, e)
both_none (Some i) b e = absurd (none-some i (sym e))

-- where no leaf is blank, all are set
pub member_count-full : (first : ℕ) (t : Tree) → first_blank_leaf first t ≡ None → member_count t ≡ leaf_count t
member_count-full first (leaf None) e = absurd (none-some first (sym e))
member_count-full first (leaf (Some x)) e = refl
member_count-full first (branch l n r) e =
    let children = both_none (first_blank_leaf first l) (first_blank_leaf (first + leaf_count l) r) e in
    let a = member_count-full first l children.0 in
    let b = member_count-full (first + leaf_count l) r children.1 in
    omega arith

-- ---- a set leaf is replaced or made blank

-- 1 for a set leaf
abbrev leaf_weight : Option LeafNode → ℕ
leaf_weight None = 0
leaf_weight (Some x) = 1

-- a leaf comes in the place of another one
member_count-exchanged : (first : ℕ) (t : Tree) (i : ℕ) (x : Option LeafNode) → first ≤ i → i < first + leaf_count t
    → member_count (put_leaf first t i x) + leaf_weight (leaf_at first t i) ≡ member_count t + leaf_weight x
member_count-exchanged first (leaf y) i x a b =
    ap (λ o. member_count (leaf x) + leaf_weight o) (same i first y None (omega arith)) ∙ weighed x y
  where
    weighed : (x y : Option LeafNode) → member_count (leaf x) + leaf_weight y ≡ member_count (leaf y) + leaf_weight x
    weighed None None = refl
    weighed None (Some y) = refl
    weighed (Some x) None = refl
    weighed (Some x) (Some y) = refl
member_count-exchanged first (branch l n r) i x a b =
    elim (cases_lt i (first + leaf_count l)) [
      | inl lt ↦
          (let at = ap leaf_weight (below i (first + leaf_count l) (leaf_at first l i) (leaf_at (first + leaf_count l) r i) lt) in
          let part = member_count-exchanged first l i x a lt in
          let whole =
          ap member_count (below i (first + leaf_count l) (branch (put_leaf first l i x) n r) (branch l n (put_leaf (first + leaf_count l) r i x)) lt) in
          omega arith)
      | inr ge ↦
          (let at = ap leaf_weight (from i (first + leaf_count l) (leaf_at first l i) (leaf_at (first + leaf_count l) r i) ge) in
          let part = member_count-exchanged (first + leaf_count l) r i x ge (omega arith) in
          let whole =
          ap member_count (from i (first + leaf_count l) (branch (put_leaf first l i x) n r) (branch l n (put_leaf (first + leaf_count l) r i x)) ge) in
          omega arith)
    ]

set_weight : (o : Option LeafNode) → IsSome o → leaf_weight o ≡ 1
set_weight None h = absurd (false≢true h)
set_weight (Some x) h = refl

pub member_count-replaced : (first : ℕ) (t : Tree) (i : ℕ) (x : LeafNode) → first ≤ i → i < first + leaf_count t → IsSome (leaf_at first t i)
    → member_count (put_leaf first t i (Some x)) ≡ member_count t
member_count-replaced first t i x a b set =
    let e = member_count-exchanged first t i (Some x) a b in
    let w = set_weight (leaf_at first t i) set in
    omega arith

pub member_count-blanked : (first : ℕ) (t : Tree) (i : ℕ) → first ≤ i → i < first + leaf_count t → IsSome (leaf_at first t i)
    → member_count (put_leaf first t i None) + 1 ≡ member_count t
member_count-blanked first t i a b set =
    let e = member_count-exchanged first t i None a b in
    let w = set_weight (leaf_at first t i) set in
    omega arith

-- ---- a tree is made smaller

none_set : (t : Tree) → has_non_blank_leaf t ≡ false → member_count t ≡ 0
none_set (leaf None) e = refl
none_set (leaf (Some x)) e = absurd (false≢true (sym e))
none_set (branch l n r) e =
    let children = or_none (has_non_blank_leaf l) (has_non_blank_leaf r) e in
    let a = none_set l children.0 in
    let b = none_set r children.1 in
    omega arith

pub member_count-truncate : (t : Tree) → member_count (truncate t) ≡ member_count t
member_count-truncate (leaf x) = refl
member_count-truncate (branch l n r) = go (has_non_blank_leaf r) refl (member_count-truncate l)
  where
    go : (b : Bool) → has_non_blank_leaf r ≡ b → member_count (truncate l) ≡ member_count l → member_count (if b then branch l n r else truncate l) ≡ member_count l + member_count r
    go true e a = refl
    go false e a = let b = none_set r e in omega arith
