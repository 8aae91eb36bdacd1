-- The arrays of a tree-math vector: each place has one parent and one sibling, so one entry.
use Rattle.std.proofs.Common.{◌≡◌, ◌≢◌, ◌↔◌, ℕ, zero, suc, ◌+◌, ◌*◌, ◌<◌, ◌≤◌, Option, Some, None, true, is_some, option_map, refl, sym, ap, ◌∙◌, inl, inr, arith}
use Rattle.std.specs.Prelude.{◌⊎◌, option_and_then, MatchOption}
use Rattle.std.proofs.lemmas.Bool.{cases_order}
use Rattle.std.proofs.lemmas.Option.{none-some, same_Some, option_and_then_some}
use Rattle.serde_json.specs.Data.{Num, unsigned, negative, float, Data, null, boolean, number, string, array, object}
use Rattle.serde_json.specs.Find.{as_null, as_number, as_u64}
use Rattle.mls_tree.specs.RatchetTree.{RatchetTree}
use Rattle.mls_tree.specs.Tree.{Tree, leaf, branch, height, leaf_count, IsPerfect, Subtree, subtree_at, root_node_index}
use Rattle.mls_tree.specs.TreeInternal.{leaves_at}
use Rattle.mls_tree.specs.NodeIndices.{left_at, right_at, left_node_index, right_node_index, IsParentOf, AreSiblings}
use Rattle.mls_tree.proofs.Coordinates.{Coordinates, coordinates, coordinates-unique, root_node_index-perfect, some_tree, leaf_count-low, left_at-half, right_at-half}
use Rattle.mls_tree.proofs.Numbers.{leaves_at-low}
use Rattle.mls_tree.proofs.Trees.{leaf_count-perfect, leaf_count-positive, subtree_at-perfect}
use Rattle.mls_vectors.specs.TreeMath.{IsEntry, entry_node_index}
use Rattle.mls_vectors.specs.CheckModel.{relation}
use Rattle.mls_vectors.specs.declared.tree_math.Column.{Column}
use Rattle.mls_vectors.specs.declared.tree_math.Column.TheVariants as columns

-- a number is that of the leaves of some tree up to a height, or of none
height_for : (b n : ℕ) → ((h : ℕ) × (h ≤ b) × (n ≡ leaves_at h)) ⊎ ((h : ℕ) → h ≤ b → n ≢ leaves_at h)
height_for zero n =
    elim (cases_order n 1) [
      | inl e ↦ inl (zero, omega arith, e)
      | inr other ↦ inr (λ h low e.
          let z : leaves_at h ≡ 1 = ap leaves_at (let y : h ≡ 0 = omega arith in y) in
          elim other [ inl less ↦ omega arith | inr more ↦ omega arith ])
    ]
height_for (suc b) n =
    elim (cases_order n (leaves_at (suc b))) [
      | inl e ↦ inl (suc b, omega arith, e)
      | inr other ↦
          elim (height_for b n) [
            | inl found ↦ inl (found.0, omega (arith, found.1), found.2)
            | inr none ↦ inr (λ h low e.
                elim (cases_order h (suc b)) [
                  | inl top ↦ (let z : leaves_at h ≡ leaves_at (suc b) = ap leaves_at top in elim other [ inl less ↦ omega arith | inr more ↦ omega arith ])
                  | inr rest ↦ none h (elim rest [ inl less ↦ omega arith | inr more ↦ omega arith ]) e
                ])
          ]
    ]

-- some tree has so many leaves, or none has
pub tree_of_size : (n : ℕ) → ((t : RatchetTree) × (leaf_count t.tree ≡ n)) ⊎ ((t : RatchetTree) → leaf_count t.tree ≢ n)
tree_of_size n =
    elim (height_for 20 n) [
      | inl found ↦ inl (some_tree found.0 n found.1 found.2)
      | inr none ↦ inr (λ t e. let low = leaf_count-low t in none (height t.tree) low.0 (sym e ∙ low.1))
    ]

-- where a place stands under its parent
record Under (q p : ℕ) : Type 0 where
  level : ℕ
  number : ℕ
  above : q + 1 ≡ (2 * number + 1) * leaves_at (suc level)
  below : (p + 1 ≡ (2 * (2 * number) + 1) * leaves_at level) ⊎ (p + 1 ≡ (2 * (2 * number + 1) + 1) * leaves_at level)

left_under : (q p first : ℕ) (u : Tree) → IsPerfect u → Coordinates q (record { first = first; tree = u }) → left_node_index first u ≡ Some p → Under q p
left_under q p first (leaf _) h c e = absurd (none-some p e)
left_under q p first (branch l d r) h c e =
    let at : root_node_index first l ≡ p = same_Some _ _ e in
    let f = c.first in
    record { level = height l; number = c.number; above = c.node_index; below = inl (omega (arith, root_node_index-perfect first l h.1)) }

right_under : (q p first : ℕ) (u : Tree) → IsPerfect u → Coordinates q (record { first = first; tree = u }) → right_node_index first u ≡ Some p → Under q p
right_under q p first (leaf _) h c e = absurd (none-some p e)
right_under q p first (branch l d r) h c e =
    let at : root_node_index (first + leaf_count l) r ≡ p = same_Some _ _ e in
    let f = c.first in
    let w : leaves_at (height l) ≡ leaves_at (height r) = ap leaves_at h.0 in
    record { level = height l; number = c.number; above = c.node_index; below = inr (omega (arith, root_node_index-perfect (first + leaf_count l) r h.2, leaf_count-perfect l h.1)) }

under : (t : RatchetTree) (q p : ℕ) → IsParentOf t.tree q p → Under q p
under t q p (inl e) =
    option_and_then_some (λ (u : Subtree). left_node_index u.first u.tree) (subtree_at 0 t.tree q) p e
    (λ u a b. left_under q p u.first u.tree (subtree_at-perfect 0 t.tree q u a t.shape.perfect).0 (coordinates t.tree t.shape.perfect q u a) b)
under t q p (inr e) =
    option_and_then_some (λ (u : Subtree). right_node_index u.first u.tree) (subtree_at 0 t.tree q) p e
    (λ u a b. right_under q p u.first u.tree (subtree_at-perfect 0 t.tree q u a t.shape.perfect).0 (coordinates t.tree t.shape.perfect q u a) b)

same_above : (q r : ℕ) (j m k n : ℕ) → q + 1 ≡ (2 * m + 1) * leaves_at (suc j) → r + 1 ≡ (2 * n + 1) * leaves_at (suc k) → j ≡ k → m ≡ n → q ≡ r
same_above q r j m k n a b jk mn =
    let same : (2 * m + 1) * leaves_at (suc j) ≡ (2 * n + 1) * leaves_at (suc k) = λ i. (2 * mn i + 1) * leaves_at (suc (jk i)) in
    omega arith

under_one : (q r p : ℕ) → Under q p → Under r p → q ≡ r
under_one q r p a b =
    elim a.below [
      | inl x ↦ elim b.below [
        | inl y ↦ (let u = coordinates-unique a.level (2 * a.number) b.level (2 * b.number) (sym x ∙ y) in same_above q r a.level a.number b.level b.number a.above b.above u.0 (omega (arith, u.1)))
        | inr y ↦ absurd (let u = coordinates-unique a.level (2 * a.number) b.level (2 * b.number + 1) (sym x ∙ y) in omega (arith, u.1))
      ]
      | inr x ↦ elim b.below [
        | inl y ↦ absurd (let u = coordinates-unique a.level (2 * a.number + 1) b.level (2 * b.number) (sym x ∙ y) in omega (arith, u.1))
        | inr y ↦ (let u = coordinates-unique a.level (2 * a.number + 1) b.level (2 * b.number + 1) (sym x ∙ y) in same_above q r a.level a.number b.level b.number a.above b.above u.0 (omega (arith, u.1)))
      ]
    ]

-- a place has one parent
pub IsParentOf-one : (t : RatchetTree) (q r p : ℕ) → IsParentOf t.tree q p → IsParentOf t.tree r p → q ≡ r
IsParentOf-one t q r p a b = under_one q r p (under t q p a) (under t r p b)

-- a place is not both halves
not_both : (t : RatchetTree) (q r p : ℕ) → left_at t.tree q ≡ Some p → right_at t.tree r ≡ Some p → q ≡ r → ⊥
not_both t q r p a b e = let x = (left_at-half t q p a).1 in let y = (right_at-half t r p b).1 in omega arith

-- a place has one sibling
pub AreSiblings-one : (t : RatchetTree) (p u v : ℕ) → AreSiblings t.tree p u → AreSiblings t.tree p v → u ≡ v
AreSiblings-one t p u v (q, inl a) (r, inl b) = same_Some _ _ (sym a.1 ∙ ap (λ x. right_at t.tree x) (IsParentOf-one t q r p (inl a.0) (inl b.0)) ∙ b.1)
AreSiblings-one t p u v (q, inl a) (r, inr b) = absurd (not_both t q r p a.0 b.0 (IsParentOf-one t q r p (inl a.0) (inr b.0)))
AreSiblings-one t p u v (q, inr a) (r, inl b) = absurd (not_both t r q p b.0 a.0 (IsParentOf-one t r q p (inl b.0) (inr a.0)))
AreSiblings-one t p u v (q, inr a) (r, inr b) = same_Some _ _ (sym a.1 ∙ ap (λ x. left_at t.tree x) (IsParentOf-one t q r p (inr a.0) (inr b.0)) ∙ b.1)

-- where at most one place is that which is wanted, the answer is one
one_answer : (P : ℕ → Type 0) → ((q r : ℕ) → P q → P r → q ≡ r) → (a b : Option ℕ) → MatchOption a ((q : ℕ) → P q → ⊥) P → MatchOption b ((q : ℕ) → P q → ⊥) P → a ≡ b
one_answer P one None None x y = refl
one_answer P one None (Some r) x y = absurd (x r y)
one_answer P one (Some q) None x y = absurd (y q x)
one_answer P one (Some q) (Some r) x y = ap (λ v. Some v) (one q r x y)

pub relation-one : (c : Column) (t : RatchetTree) (p : ℕ) (a b : Option ℕ) → relation c t.tree p a → relation c t.tree p b → a ≡ b
relation-one columns.Left t p a b x y = x ∙ sym y
relation-one columns.Right t p a b x y = x ∙ sym y
relation-one columns.Parent t p a b x y = one_answer (λ q. IsParentOf t.tree q p) (λ q r. IsParentOf-one t q r p) a b x y
relation-one columns.Sibling t p a b x y = one_answer (λ u. AreSiblings t.tree p u) (λ u v. AreSiblings-one t p u v) a b x y

-- the entry is right where it gives the place that is wanted
pub entry-expected : (c : Column) (t : RatchetTree) (p : ℕ) (d : Data) (expected : Option ℕ) → relation c t.tree p expected → IsEntry (relation c) t.tree p d ↔ (entry_node_index d ≡ Some expected)
entry-expected c t p d expected w = (
  λ h. h.1 ∙ ap (λ v. Some v) (relation-one c t p h.0 expected h.2 w),
  λ e. (expected, e, w),
)

number_null : (n : Num) → option_map (λ (p : ℕ). Some p) (as_u64 n) ≢ Some None
number_null (unsigned n) e = cc
number_null (negative z) e = cc
number_null (float x) e = cc

-- null gives no place
pub entry-null : (d : Data) → (is_some (as_null d) ≡ true) ↔ (entry_node_index d ≡ Some None)
entry-null null = (λ e. refl, λ e. refl)
entry-null (boolean b) = (λ e. cc, λ e. cc)
entry-null (number n) = (λ e. cc, λ e. absurd (number_null n e))
entry-null (string s) = (λ e. cc, λ e. cc)
entry-null (array ds) = (λ e. cc, λ e. cc)
entry-null (object ms) = (λ e. cc, λ e. cc)

number_some : (n : Num) (p : ℕ) → (as_u64 n ≡ Some p) ↔ (option_map (λ (p : ℕ). Some p) (as_u64 n) ≡ Some (Some p))
number_some (unsigned n) p = (λ e. ap (λ v. Some v) e, λ e. same_Some _ _ e)
number_some (negative z) p = (λ e. cc, λ e. cc)
number_some (float x) p = (λ e. cc, λ e. cc)

-- a number gives its place
pub entry-some : (d : Data) (p : ℕ) → (option_and_then as_u64 (as_number d) ≡ Some p) ↔ (entry_node_index d ≡ Some (Some p))
entry-some null p = (λ e. cc, λ e. cc)
entry-some (boolean b) p = (λ e. cc, λ e. cc)
entry-some (number n) p = number_some n p
entry-some (string s) p = (λ e. cc, λ e. cc)
entry-some (array ds) p = (λ e. cc, λ e. cc)
entry-some (object ms) p = (λ e. cc, λ e. cc)

-- how many leaves a tree has
pub leaves_low : (t : RatchetTree) → leaf_count t.tree ≤ 1048576
leaves_low t = let low = leaf_count-low t in omega (arith, low.1, leaves_at-low (height t.tree) low.0)

pub leaves_some : (t : RatchetTree) → 0 < leaf_count t.tree
leaves_some t = leaf_count-positive t.tree
