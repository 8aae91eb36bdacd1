-- A node index by its level k and its number m on that level: p + 1 ≡ (2 * m + 1) * 2 ^ k.
use Rattle.std.proofs.Common.{◌≡◌, ◌≢◌, ℕ, zero, suc, ◌+◌, ◌*◌, ◌-◌, ◌/◌, ◌%◌, ◌^◌, ◌<◌, ◌≤◌, Option, Some, None, [], refl, sym, ap, ◌∙◌, subst, inl, inr, arith, option_map, bit_and}
use Rattle.std.specs.Prelude.{◌⊎◌, option_and_then, MatchOption, MatchResult, Result, Ok, Err}
use Rattle.std.proofs.lemmas.Bool.{cases_order, cases_lt}
use Rattle.std.specs.Int.{bit_at, w32, w64, trailing_ones, trailing_zeros}
use Rattle.std.proofs.lemmas.Nat.Bits.{bit_at_lowest, bit_at-suc, bit_at-trailing_ones, bit_at-trailing_zeros, bit_at-pow_other, shr_and_one}
use Rattle.std.proofs.lemmas.Nat.{pow_pos, pow_below}
use Rattle.std.proofs.Math.Nat.{pow-le-pow_right}
use Rattle.mls_tree.specs.Tree.{Tree, leaf, branch, height, leaf_count, IsPerfect, Subtree, subtree_at, root_node_index}
use Rattle.mls_tree.specs.TreeInternal.{leaves_at}
use Rattle.mls_tree.specs.RatchetTree.{RatchetTree}
use Rattle.mls_tree.specs.NodeIndices.{level_at, left_at, right_at, left_node_index, right_node_index, IsParentOf, AreSiblings}
use Rattle.mls_tree.specs.NodeIndicesInternal.{HasLevel}
use Rattle.mls_tree.proofs.Numbers.{leaves_at-positive, leaves_at-pow, leaves_at-low}
use Rattle.mls_tree.proofs.Trees.{leaf_count-perfect, leaf_count-positive, along, subtree_at-stands, subtree_at-some, subtree_at-perfect, subtree_at-aligned, subtree_at-left, subtree_at-right, subtree_at-root, subtree_at-in_left, subtree_at-in_right, root_node_index-above, root_node_index-below}
use Rattle.mls_tree.specs.NodeArray.{ratchet_tree_in, height-tree_in, IsNoSize, IsNoLength}
use Rattle.mls_tree.specs.TreeSizes.{IsPowerOfTwo}
use Rattle.mls_tree.specs.declared.error.TreeError.{TreeError}
use Rattle.mls_tree.specs.declared.error.TreeError.TheVariants.{NoSuchNode, TooManyLeaves, BadShape, OutOfMemory}
use Rattle.mls_tree.proofs.Arrays.{leaf_count-tree_in}
use Rattle.std.proofs.lemmas.Option.{none-some, same_Some, option_and_then_some}

-- level and number are unique
pub coordinates-unique : (k m j n : ℕ) → (2 * m + 1) * leaves_at k ≡ (2 * n + 1) * leaves_at j → (k ≡ j) × (m ≡ n)
coordinates-unique zero m zero n e = (refl, omega arith)
coordinates-unique zero m (suc j) n e = absurd (omega arith)
coordinates-unique (suc k) m zero n e = absurd (omega arith)
coordinates-unique (suc k) m (suc j) n e = let h = coordinates-unique k m j n (omega arith) in (ap (λ v. suc v) h.0, h.1)

-- the k lowest bits are set, the next is not, and the one after it says whether the number is odd
pub record HasBits (p k m : ℕ) : Type 0 where
  pub ones : (i : ℕ) → i < k → bit_at p i ≡ 1
  pub zero_next : bit_at p k ≡ 0
  pub parity : bit_at p (suc k) ≡ m % 2

pub coordinates-bits : (p k m : ℕ) → p + 1 ≡ (2 * m + 1) * leaves_at k → HasBits p k m
coordinates-bits p zero m e = record {
  ones = λ i l. absurd (omega arith);
  zero_next = bit_at_lowest p ∙ omega arith;
  parity = bit_at-suc p 0 ∙ bit_at_lowest (p / 2) ∙ omega arith;
}
coordinates-bits p (suc k) m e =
    let h = coordinates-bits (p / 2) k m (omega arith) in
    record {
      ones = λ i l. (elim i as (λ j. j < suc k → bit_at p j ≡ 1) [ zero ↦ λ q. bit_at_lowest p ∙ omega arith | suc j ↦ λ q. bit_at-suc p j ∙ h.ones j (omega arith) ]) l;
      zero_next = bit_at-suc p k ∙ h.zero_next;
      parity = bit_at-suc p (suc k) ∙ h.parity;
    }

pub coordinates-trailing_ones : (p k m : ℕ) → p + 1 ≡ (2 * m + 1) * leaves_at k → p + 1 < 4294967296 → trailing_ones w32 p ≡ k
coordinates-trailing_ones p k m e n =
    let b = coordinates-bits p k m e in
    let o = bit_at-trailing_ones w32 p n in
    elim (cases_order (trailing_ones w32 p) k) [
      | inl same ↦ same
      | inr (inl lt) ↦ absurd (let x = b.ones (trailing_ones w32 p) lt in let y = o.1 in omega arith)
      | inr (inr gt) ↦ absurd (let x = o.2 k gt in let y = b.zero_next in omega arith)
    ]

pub root_node_index-perfect : (first : ℕ) (t : Tree) → IsPerfect t → root_node_index first t + 1 ≡ 2 * first + leaves_at (height t)
root_node_index-perfect first (leaf x) h = omega arith
root_node_index-perfect first (branch l n r) h = omega (arith, leaf_count-perfect l h.1, leaf_count-positive l)

-- where a subtree of height k is
pub record Coordinates (p : ℕ) (s : Subtree) : Type 0 where
  pub number : ℕ
  pub node_index : p + 1 ≡ (2 * number + 1) * leaves_at (height s.tree)
  pub first : s.first ≡ number * leaves_at (height s.tree)

pub coordinates : (t : Tree) → IsPerfect t → (p : ℕ) (s : Subtree) → subtree_at 0 t p ≡ Some s → Coordinates p s
coordinates t h p s e =
    let at = subtree_at-stands 0 t p s e in
    let k = subtree_at-perfect 0 t p s e h in
    let a = subtree_at-aligned 0 t p s e h 0 (omega arith) in
    record { number = a.0; node_index = omega (arith, root_node_index-perfect s.first s.tree k.0, at.node_index, a.1); first = a.1 }

-- a tree of each height
abbrev pub some_tree : (h n : ℕ) → h ≤ 20 → n ≡ leaves_at h → (t : RatchetTree) × (leaf_count t.tree ≡ n)
some_tree h n low e = (ratchet_tree_in [] h low, leaf_count-tree_in [] h 0 ∙ sym e)

-- what is known at a node index that a tree has
pub record At (t : Tree) (p k : ℕ) : Type 0 where
  pub number : ℕ
  pub subtree : Subtree
  pub stands : subtree_at 0 t p ≡ Some subtree
  pub level : height subtree.tree ≡ k
  pub perfect : IsPerfect subtree.tree
  pub first : subtree.first ≡ number * leaves_at k
  pub node_index : p + 1 ≡ (2 * number + 1) * leaves_at k

pub at_place : (t : RatchetTree) (p n k : ℕ) → leaf_count t.tree ≡ n → HasLevel p n k → At t.tree p k
at_place t p n k c s =
    let e = subtree_at-some 0 t.tree p (omega arith) (omega (arith, s.within)) in
    let co = coordinates t.tree t.shape.perfect p e.0 e.1 in
    let u = coordinates-unique (height e.0.tree) co.number k s.number (sym co.node_index ∙ s.node_index) in
    record {
      number = s.number;
      subtree = e.0;
      stands = e.1;
      level = u.0;
      perfect = (subtree_at-perfect 0 t.tree p e.0 e.1 t.shape.perfect).0;
      first = co.first ∙ (λ i. u.1 i * leaves_at (u.0 i));
      node_index = s.node_index;
    }

-- a node index below 2 * n - 1 has a level, the number of its trailing ones
pub HasLevel-below : (p h n : ℕ) → h ≤ 20 → n ≡ leaves_at h → p + 1 < 2 * n → HasLevel p n (trailing_ones w32 p)
HasLevel-below p h n low e l =
    let t = some_tree h n low e in
    let at = subtree_at-some 0 t.0.tree p (omega arith) (omega (arith, t.1)) in
    let co = coordinates t.0.tree t.0.shape.perfect p at.0 at.1 in
    let k = (subtree_at-perfect 0 t.0.tree p at.0 at.1 t.0.shape.perfect).1 in
    let ones : trailing_ones w32 p ≡ height at.0.tree = coordinates-trailing_ones p (height at.0.tree) co.number co.node_index (omega (arith, leaves_at-low h low)) in
    let hh : height t.0.tree ≡ h = height-tree_in [] h 0 in
    record {
      height = h;
      low = low;
      count = e;
      number = co.number;
      within = l;
      under = omega arith;
      node_index = co.node_index ∙ ap (λ v. (2 * co.number + 1) * leaves_at v) (sym ones);
    }

-- the children of a subtree of height j + 1 at node index p
left_from : (first : ℕ) (t : Tree) (p j m : ℕ) → IsPerfect t → height t ≡ suc j → first ≡ m * leaves_at (suc j) → p + 1 ≡ (2 * m + 1) * leaves_at (suc j)
    → left_node_index first t ≡ Some (p - leaves_at j)
left_from first (leaf _) p j m h e f q = absurd (omega arith)
left_from first (branch l n r) p j m h e f q =
    let k : height l ≡ j = omega arith in
    let w : leaves_at (height l) ≡ leaves_at j = ap leaves_at k in
    ap (λ v. Some v) (omega (arith, root_node_index-perfect first l h.1))

right_from : (first : ℕ) (t : Tree) (p j m : ℕ) → IsPerfect t → height t ≡ suc j → first ≡ m * leaves_at (suc j) → p + 1 ≡ (2 * m + 1) * leaves_at (suc j)
    → right_node_index first t ≡ Some (p + leaves_at j)
right_from first (leaf _) p j m h e f q = absurd (omega arith)
right_from first (branch l n r) p j m h e f q =
    let k : height l ≡ j = omega arith in
    let w : leaves_at (height l) ≡ leaves_at j = ap leaves_at k in
    let v : leaves_at (height r) ≡ leaves_at j = ap leaves_at (sym h.0 ∙ k) in
    ap (λ v. Some v) (omega (arith, root_node_index-perfect (first + leaf_count l) r h.2, leaf_count-perfect l h.1))

left_none : (first : ℕ) (t : Tree) → height t ≡ 0 → left_node_index first t ≡ None
left_none first (leaf _) e = refl
left_none first (branch l n r) e = absurd (omega arith)

right_none : (first : ℕ) (t : Tree) → height t ≡ 0 → right_node_index first t ≡ None
right_none first (leaf _) e = refl
right_none first (branch l n r) e = absurd (omega arith)

module _ (t : RatchetTree) (p n : ℕ) (c : leaf_count t.tree ≡ n) where
  pub level_at-node_index : (k : ℕ) → HasLevel p n k → Some k ≡ level_at t.tree p
  level_at-node_index k s = let a = at_place t p n k c s in sym (ap (λ o. option_map (λ (u : Subtree). height u.tree) o) a.stands ∙ ap (λ v. Some v) a.level)

  pub left_at-node_index : (k j : ℕ) → k ≡ suc j → HasLevel p n k → Some (p - leaves_at j) ≡ left_at t.tree p
  left_at-node_index k j e s =
      let a = at_place t p n k c s in
      sym (ap (λ o. option_and_then (λ (u : Subtree). left_node_index u.first u.tree) o) a.stands
      ∙ left_from a.subtree.first a.subtree.tree p j a.number a.perfect (a.level ∙ e) (a.first ∙ ap (λ v. a.number * leaves_at v) e) (a.node_index ∙ ap (λ v. (2 * a.number + 1) * leaves_at v) e))

  pub right_at-node_index : (k j : ℕ) → k ≡ suc j → HasLevel p n k → Some (p + leaves_at j) ≡ right_at t.tree p
  right_at-node_index k j e s =
      let a = at_place t p n k c s in
      sym (ap (λ o. option_and_then (λ (u : Subtree). right_node_index u.first u.tree) o) a.stands
      ∙ right_from a.subtree.first a.subtree.tree p j a.number a.perfect (a.level ∙ e) (a.first ∙ ap (λ v. a.number * leaves_at v) e) (a.node_index ∙ ap (λ v. (2 * a.number + 1) * leaves_at v) e))

  pub left_at-leaf : HasLevel p n 0 → None ≡ left_at t.tree p
  left_at-leaf s =
      let a = at_place t p n 0 c s in
      sym (ap (λ o. option_and_then (λ (u : Subtree). left_node_index u.first u.tree) o) a.stands ∙ left_none a.subtree.first a.subtree.tree a.level)

  pub right_at-leaf : HasLevel p n 0 → None ≡ right_at t.tree p
  right_at-leaf s =
      let a = at_place t p n 0 c s in
      sym (ap (λ o. option_and_then (λ (u : Subtree). right_node_index u.first u.tree) o) a.stands ∙ right_none a.subtree.first a.subtree.tree a.level)

-- a node index that is not the root's is that of a child
pub record HasParent (first : ℕ) (t : Tree) (p : ℕ) : Type 0 where
  pub node_index : ℕ
  pub subtree : Subtree
  pub stands : subtree_at first t node_index ≡ Some subtree
  pub half : (left_node_index subtree.first subtree.tree ≡ Some p) ⊎ (right_node_index subtree.first subtree.tree ≡ Some p)

pub has_parent : (first : ℕ) (t : Tree) (p : ℕ) (s : Subtree) → subtree_at first t p ≡ Some s → (p ≡ root_node_index first t) ⊎ HasParent first t p
has_parent =
    along (λ first t p s. (p ≡ root_node_index first t) ⊎ HasParent first t p)
    (λ first t p e. inl e)
    (λ first l n r p s lt sub ih. elim ih [
      | inl e ↦ inr (record { node_index = root_node_index first (branch l n r); subtree = record { first = first; tree = branch l n r }; stands = subtree_at-root first (branch l n r); half = inl (ap (λ v. Some v) (sym e)) })
      | inr w ↦
          (let at = subtree_at-stands first l w.node_index w.subtree w.stands in
          inr (record { node_index = w.node_index; subtree = w.subtree; stands = subtree_at-in_left first l n r w.node_index (omega (arith, root_node_index-below w.subtree.first w.subtree.tree)) ∙ w.stands; half = w.half }))
    ])
    (λ first l n r p s gt sub ih. elim ih [
      | inl e ↦ inr (record { node_index = root_node_index first (branch l n r); subtree = record { first = first; tree = branch l n r }; stands = subtree_at-root first (branch l n r); half = inr (ap (λ v. Some v) (sym e)) })
      | inr w ↦
          (let at = subtree_at-stands (first + leaf_count l) r w.node_index w.subtree w.stands in
          inr (record { node_index = w.node_index; subtree = w.subtree; stands = subtree_at-in_right first l n r w.node_index (omega (arith, root_node_index-above w.subtree.first w.subtree.tree)) ∙ w.stands; half = w.half }))
    ])

pub no_tree_of : (p n k : ℕ) → HasLevel p n k → ((t : RatchetTree) → leaf_count t.tree ≢ n) → ⊥
no_tree_of p n k s none = let t = some_tree s.height n s.low s.count in none t.0 t.1

-- both steps from a node index remain in the range of numbers
pub HasLevel-left : (p n k j : ℕ) → HasLevel p n k → k ≡ suc j → leaves_at j ≤ p
HasLevel-left p n k j s e =
    let q : p + 1 ≡ (2 * s.number + 1) * leaves_at (suc j) = s.node_index ∙ ap (λ v. (2 * s.number + 1) * leaves_at v) e in
    let pos = leaves_at-positive j in omega arith

pub HasLevel-low : (p n k j : ℕ) → HasLevel p n k → j ≤ k → p + leaves_at j < 4294967296
HasLevel-low p n k j s l =
    let a = leaves_at-low j (omega (arith, s.under, s.low)) in
    let b = leaves_at-low s.height s.low in
    omega (arith, s.within, s.count)

-- the parent of a node index with level k and number m
module _ (t : RatchetTree) (p n k : ℕ) (c : leaf_count t.tree ≡ n) (s : HasLevel p n k) where
  half_left : (first : ℕ) (u : Tree) (m : ℕ) → IsPerfect u → left_node_index first u ≡ Some p → first ≡ m * leaves_at (height u)
      → (s.number ≡ 2 * m) × (root_node_index first u ≡ p + leaves_at k)
  half_left first (leaf _) m h e f = absurd (none-some p e)
  half_left first (branch l d r) m h e f =
      let at : root_node_index first l ≡ p = same_Some _ _ e in
      let q = coordinates-unique k s.number (height l) (2 * m) (sym s.node_index ∙ omega (arith, root_node_index-perfect first l h.1)) in
      let v : leaves_at k ≡ leaves_at (height l) = ap leaves_at q.0 in
      (q.1, omega (arith, root_node_index-perfect first l h.1, leaf_count-perfect l h.1, leaf_count-positive l))

  half_right : (first : ℕ) (u : Tree) (m : ℕ) → IsPerfect u → right_node_index first u ≡ Some p → first ≡ m * leaves_at (height u)
      → (s.number ≡ 2 * m + 1) × (root_node_index first u ≡ p - leaves_at k) × (leaves_at k ≤ p)
  half_right first (leaf _) m h e f = absurd (none-some p e)
  half_right first (branch l d r) m h e f =
      let at : root_node_index (first + leaf_count l) r ≡ p = same_Some _ _ e in
      let w : leaves_at (height l) ≡ leaves_at (height r) = ap leaves_at h.0 in
      let x : m * leaves_at (height l) ≡ m * leaves_at (height r) = ap (λ v. m * v) w in
      let q = coordinates-unique k s.number (height r) (2 * m + 1) (sym s.node_index ∙ omega (arith, root_node_index-perfect (first + leaf_count l) r h.2, leaf_count-perfect l h.1)) in
      let v : leaves_at k ≡ leaves_at (height r) = ap leaves_at q.0 in
      (q.1, omega (arith, root_node_index-perfect (first + leaf_count l) r h.2, leaf_count-perfect l h.1, leaf_count-positive l), omega (arith, root_node_index-perfect (first + leaf_count l) r h.2, leaf_count-perfect l h.1, leaf_count-positive l))

  -- the node index above p, by the parity of its number
  pub record Above : Type 0 where
    pub even : s.number % 2 ≡ 0 → left_at t.tree (p + leaves_at k) ≡ Some p
    pub odd : s.number % 2 ≢ 0 → (leaves_at k ≤ p) × (right_at t.tree (p - leaves_at k) ≡ Some p)

  above-from : HasParent 0 t.tree p → Above
  above-from w =
      let co = coordinates t.tree t.shape.perfect w.node_index w.subtree w.stands in
      let st = subtree_at-stands 0 t.tree w.node_index w.subtree w.stands in
      let pf = (subtree_at-perfect 0 t.tree w.node_index w.subtree w.stands t.shape.perfect).0 in
      elim w.half [
        | inl e ↦
            (let h = half_left w.subtree.first w.subtree.tree co.number pf e co.first in
            record {
              even = λ q.
                  ap (λ v. left_at t.tree v) (sym (st.node_index ∙ h.1))
                  ∙ ap (λ o. option_and_then (λ (u : Subtree). left_node_index u.first u.tree) o) w.stands ∙ e;
              odd = λ q. absurd (q (omega (arith, h.0)));
            })
        | inr e ↦
            (let h = half_right w.subtree.first w.subtree.tree co.number pf e co.first in
            record {
              even = λ q. absurd (omega (arith, h.0));
              odd = λ q. (
                h.2,
                ap (λ v. right_at t.tree v) (sym (st.node_index ∙ h.1))
                    ∙ ap (λ o. option_and_then (λ (u : Subtree). right_node_index u.first u.tree) o) w.stands ∙ e,
              );
            })
      ]

  pub above : p ≢ n - 1 → Above
  above ne =
      let a = at_place t p n k c s in
      elim (has_parent 0 t.tree p a.subtree a.stands) [
        | inl e ↦ absurd (ne (omega (arith, root_node_index-perfect 0 t.tree t.shape.perfect, leaf_count-perfect t.tree t.shape.perfect)))
        | inr w ↦ above-from w
      ]

-- a child is on a lower level than its parent, the left one at a smaller node index and the right one at a larger
pub record HalfOf (t : Tree) (q p : ℕ) : Type 0 where
  pub outer : Subtree
  pub stands : subtree_at 0 t q ≡ Some outer
  pub inner : Subtree
  pub inside : subtree_at 0 t p ≡ Some inner
  pub lower : height inner.tree < height outer.tree

left_subtree_of : (t : Tree) (q p first : ℕ) (u : Tree) → IsPerfect u → subtree_at 0 t q ≡ Some (record { first = first; tree = u }) → left_node_index first u ≡ Some p → HalfOf t q p × (p < q)
left_subtree_of t q p first (leaf _) h e f = absurd (none-some p f)
left_subtree_of t q p first (branch l d r) h e f =
    let at : root_node_index first l ≡ p = same_Some _ _ f in
    let st = subtree_at-stands 0 t q (record { first = first; tree = branch l d r }) e in (
      record { outer = record { first = first; tree = branch l d r }; stands = e; inner = record { first = first; tree = l }; inside = ap (λ v. subtree_at 0 t v) (sym at) ∙ subtree_at-left 0 t q first l d r e; lower = omega arith },
      omega (arith, st.node_index, root_node_index-below first l),
    )

right_subtree_of : (t : Tree) (q p first : ℕ) (u : Tree) → IsPerfect u → subtree_at 0 t q ≡ Some (record { first = first; tree = u }) → right_node_index first u ≡ Some p → HalfOf t q p × (q < p)
right_subtree_of t q p first (leaf _) h e f = absurd (none-some p f)
right_subtree_of t q p first (branch l d r) h e f =
    let at : root_node_index (first + leaf_count l) r ≡ p = same_Some _ _ f in
    let st = subtree_at-stands 0 t q (record { first = first; tree = branch l d r }) e in (
      record { outer = record { first = first; tree = branch l d r }; stands = e; inner = record { first = first + leaf_count l; tree = r }; inside = ap (λ v. subtree_at 0 t v) (sym at) ∙ subtree_at-right 0 t q first l d r e; lower = let k = h.0 in omega arith },
      omega (arith, st.node_index, root_node_index-above (first + leaf_count l) r, leaf_count-positive l),
    )

pub left_at-half : (t : RatchetTree) (q p : ℕ) → left_at t.tree q ≡ Some p → HalfOf t.tree q p × (p < q)
left_at-half t q p e =
    option_and_then_some (λ (u : Subtree). left_node_index u.first u.tree) (subtree_at 0 t.tree q) p e
    (λ u a b. left_subtree_of t.tree q p u.first u.tree (subtree_at-perfect 0 t.tree q u a t.shape.perfect).0 a b)

pub right_at-half : (t : RatchetTree) (q p : ℕ) → right_at t.tree q ≡ Some p → HalfOf t.tree q p × (q < p)
right_at-half t q p e =
    option_and_then_some (λ (u : Subtree). right_node_index u.first u.tree) (subtree_at 0 t.tree q) p e
    (λ u a b. right_subtree_of t.tree q p u.first u.tree (subtree_at-perfect 0 t.tree q u a t.shape.perfect).0 a b)

pub IsParentOf-half : (t : RatchetTree) (q p : ℕ) → IsParentOf t.tree q p → HalfOf t.tree q p
IsParentOf-half t q p (inl e) = (left_at-half t q p e).0
IsParentOf-half t q p (inr e) = (right_at-half t q p e).0

-- there is no parent of what is no node index, nor of the root's
pub IsParentOf-no_node_index : (t : RatchetTree) (q p : ℕ) → subtree_at 0 t.tree p ≡ None → IsParentOf t.tree q p → ⊥
IsParentOf-no_node_index t q p e h = let w = IsParentOf-half t q p h in none-some w.inner (sym e ∙ w.inside)

pub IsParentOf-root : (t : RatchetTree) (q p n : ℕ) → leaf_count t.tree ≡ n → p ≡ n - 1 → IsParentOf t.tree q p → ⊥
IsParentOf-root t q p n c e h =
    let w = IsParentOf-half t q p h in
    let at : p ≡ root_node_index 0 t.tree = omega (arith, root_node_index-perfect 0 t.tree t.shape.perfect, leaf_count-perfect t.tree t.shape.perfect) in
    let same : w.inner ≡ record { first = 0; tree = t.tree } = same_Some _ _ (sym w.inside ∙ ap (λ v. subtree_at 0 t.tree v) at ∙ subtree_at-root 0 t.tree) in
    let k = (subtree_at-perfect 0 t.tree q w.outer w.stands t.shape.perfect).1 in
    let g : height w.inner.tree ≡ height t.tree = ap (λ (u : Subtree). height u.tree) same in
    omega (arith, w.lower)

-- the bit that the code reads
pub HasLevel-parity : (p n k : ℕ) (s : HasLevel p n k) → bit_and (p / 2 ^ (k + 1)) 1 ≡ s.number % 2
HasLevel-parity p n k s =
    shr_and_one p (k + 1) ∙ ap (λ v. bit_at p v) (let e : k + 1 ≡ suc k = omega arith in e) ∙ (coordinates-bits p k s.number s.node_index).parity

-- a step down from an odd number remains in the range of numbers
pub HasLevel-odd : (p n k : ℕ) (s : HasLevel p n k) → s.number % 2 ≢ 0 → leaves_at k ≤ p
HasLevel-odd p n k s odd =
    let m = s.number / 2 in
    let e : s.number ≡ 2 * m + 1 = omega arith in
    let q : (2 * s.number + 1) * leaves_at k ≡ (2 * (2 * m + 1) + 1) * leaves_at k = ap (λ v. (2 * v + 1) * leaves_at k) e in
    let pos = leaves_at-positive k in
    omega (arith, s.node_index)

-- the number of leaves of a tree is that of a height
pub leaf_count-low : (t : RatchetTree) → (height t.tree ≤ 20) × (leaf_count t.tree ≡ leaves_at (height t.tree))
leaf_count-low t = (t.shape.low, leaf_count-perfect t.tree t.shape.perfect)

pub root-seen : (t : RatchetTree) (n : ℕ) → leaf_count t.tree ≡ n → n - 1 ≡ root_node_index 0 t.tree
root-seen t n c = omega (arith, root_node_index-perfect 0 t.tree t.shape.perfect, leaf_count-perfect t.tree t.shape.perfect)

other_half : (first : ℕ) (u : Tree) (p : ℕ) → left_node_index first u ≡ Some p → (v : ℕ) × (right_node_index first u ≡ Some v)
other_half first (leaf _) p e = absurd (none-some p e)
other_half first (branch l n r) p e = (root_node_index (first + leaf_count l) r, refl)

other_half' : (first : ℕ) (u : Tree) (p : ℕ) → right_node_index first u ≡ Some p → (v : ℕ) × (left_node_index first u ≡ Some v)
other_half' first (leaf _) p e = absurd (none-some p e)
other_half' first (branch l n r) p e = (root_node_index first l, refl)

pub right_of_left : (t : RatchetTree) (q p : ℕ) → left_at t.tree q ≡ Some p → (v : ℕ) × (right_at t.tree q ≡ Some v)
right_of_left t q p e =
    option_and_then_some (λ (u : Subtree). left_node_index u.first u.tree) (subtree_at 0 t.tree q) p e
    (λ u a b. let o = other_half u.first u.tree p b in (o.0, ap (λ w. option_and_then (λ (u : Subtree). right_node_index u.first u.tree) w) a ∙ o.1))

pub left_of_right : (t : RatchetTree) (q p : ℕ) → right_at t.tree q ≡ Some p → (v : ℕ) × (left_at t.tree q ≡ Some v)
left_of_right t q p e =
    option_and_then_some (λ (u : Subtree). right_node_index u.first u.tree) (subtree_at 0 t.tree q) p e
    (λ u a b. let o = other_half' u.first u.tree p b in (o.0, ap (λ w. option_and_then (λ (u : Subtree). left_node_index u.first u.tree) w) a ∙ o.1))

pub sibling-right : (t : RatchetTree) (p q : ℕ) (r : Option ℕ) → IsParentOf t.tree q p → p < q → r ≡ right_at t.tree q
    → MatchOption r ((u : ℕ) → AreSiblings t.tree p u → ⊥) (λ u. AreSiblings t.tree p u)
sibling-right t p q r (inl h) l e =
    let o = right_of_left t q p h in
    subst (λ w. MatchOption w ((u : ℕ) → AreSiblings t.tree p u → ⊥) (λ u. AreSiblings t.tree p u)) (sym (e ∙ o.1)) (q, inl (h, o.1))
sibling-right t p q r (inr h) l e = absurd (let w = (right_at-half t q p h).1 in omega arith)

pub sibling-left : (t : RatchetTree) (p q : ℕ) (r : Option ℕ) → IsParentOf t.tree q p → q ≤ p → r ≡ left_at t.tree q
    → MatchOption r ((u : ℕ) → AreSiblings t.tree p u → ⊥) (λ u. AreSiblings t.tree p u)
sibling-left t p q r (inr h) l e =
    let o = left_of_right t q p h in
    subst (λ w. MatchOption w ((u : ℕ) → AreSiblings t.tree p u → ⊥) (λ u. AreSiblings t.tree p u)) (sym (e ∙ o.1)) (q, inr (h, o.1))
sibling-left t p q r (inl h) l e = absurd (let w = (left_at-half t q p h).1 in omega arith)

-- the same at 64 bits, for the length of an array
pub trailing_zeros-pow_64 : (k : ℕ) → k < 64 → trailing_zeros w64 (2 ^ k) ≡ k
trailing_zeros-pow_64 k l =
    let o = bit_at-trailing_zeros w64 (2 ^ k) (pow_pos k) (omega (arith, pow_below k 64)) in
    elim (cases_order (trailing_zeros w64 (2 ^ k)) k) [
      | inl same ↦ same
      | inr (inl lt) ↦ absurd (let x = bit_at-pow_other k (trailing_zeros w64 (2 ^ k)) (λ e. omega arith) in let y = o.1 in omega arith)
      | inr (inr gt) ↦ absurd (let x = bit_at-pow_other k (trailing_zeros w64 (2 ^ k)) (λ e. omega arith) in let y = o.1 in omega arith)
    ]

-- a power of two is that of its trailing zeros
pub power_found : (n : ℕ) → trailing_zeros w64 n < 64 → n ≡ 1 * 2 ^ trailing_zeros w64 n % 18446744073709551616 → n ≡ 2 ^ trailing_zeros w64 n
power_found n low e = let z = pow_below (trailing_zeros w64 n) 64 low in omega arith

pub power_missing : (n : ℕ) → n < 18446744073709551616 → (64 ≤ trailing_zeros w64 n) ⊎ (n ≢ 1 * 2 ^ trailing_zeros w64 n % 18446744073709551616) → IsPowerOfTwo n → ⊥
power_missing n small away (h, e) =
    elim (cases_lt h 64) [
      | inl lt ↦
          (let z : trailing_zeros w64 n ≡ h = ap (λ v. trailing_zeros w64 v) e ∙ trailing_zeros-pow_64 h lt in
          let q : 2 ^ trailing_zeros w64 n ≡ 2 ^ h = ap (λ v. 2 ^ v) z in
          elim away [
            | inl more ↦ omega arith
            | inr other ↦ other (omega arith)
          ])
      | inr ge ↦ (let q : 2 ^ 64 ≤ 2 ^ h = pow-le-pow_right (omega arith) ge in omega arith)
    ]

-- half the nodes of an odd number, and one, are leaves
pub IsNoLength-odd : (e : TreeError) (count : ℕ) → count % 2 ≢ 0 → IsNoSize e (count / 2 + 1) → IsNoLength e count
IsNoLength-odd BadShape count odd bad = λ h q. bad (h, omega (arith, leaves_at-pow h))
IsNoLength-odd TooManyLeaves count odd bad = (bad.0, bad.1, omega (arith, bad.2, leaves_at-pow bad.0))
IsNoLength-odd NoSuchNode count odd bad = bad
IsNoLength-odd OutOfMemory count odd bad = bad

pub size_of_length : (count : ℕ) → count % 2 ≢ 0 → (r : Result ℕ TreeError)
    → MatchResult r (λ h. (h ≤ 20) × (count / 2 + 1 ≡ leaves_at h)) (λ e. IsNoSize e (count / 2 + 1))
    → MatchResult r (λ h. (h ≤ 20) × (count + 1 ≡ 2 * leaves_at h)) (λ e. IsNoLength e count)
size_of_length count odd (Ok h) m = (m.0, omega (arith, m.1))
size_of_length count odd (Err e) m = IsNoLength-odd e count odd m

-- no tree has a number of leaves that was refused
pub IsNoSize-tree : (e : TreeError) (n : ℕ) → IsNoSize e n → (t : RatchetTree) → leaf_count t.tree ≢ n
IsNoSize-tree BadShape n bad t c = bad (height t.tree, sym c ∙ leaf_count-perfect t.tree t.shape.perfect ∙ leaves_at-pow (height t.tree))
IsNoSize-tree TooManyLeaves n bad t c =
    let up : 2 ^ 21 ≤ 2 ^ bad.0 = pow-le-pow_right (omega arith) bad.1 in
    let low = leaves_at-low (height t.tree) t.shape.low in
    omega (arith, bad.2, c, leaf_count-perfect t.tree t.shape.perfect)
IsNoSize-tree NoSuchNode n bad t c = bad
IsNoSize-tree OutOfMemory n bad t c = bad
