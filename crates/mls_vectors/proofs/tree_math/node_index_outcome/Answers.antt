use Rattle.std.proofs.Common.{◌≡◌, ℕ, ◌∙◌, List, sym, ap, subst, refl, inl, inr, Some, true≢false, codes, arith}
use Rattle.serde_json.specs.Data.{Data}
use Rattle.serde_json.specs.View.{view}
use Rattle.mls_tree.specs.RatchetTree.{RatchetTree}
use Rattle.mls_tree.specs.Tree.{leaf_count}
use Rattle.mls_tree.proofs.Coordinates.{root-seen}
use Rattle.mls_vectors.specs.TreeMath.{Relation, IsLeftOrNone, IsRightOrNone, IsParentOrNone, IsSiblingOrNone, IsEntry}
use Rattle.mls_vectors.specs.VectorFile.{HasEntries}
use Rattle.mls_vectors.proofs.tree_math.node_index_outcome.Goals as goal

-- the entries of a vector, by the number of leaves and by the tree
of_tree : (R : Relation) (name : List ℕ) (d : Data) (t : RatchetTree) (n : ℕ) → leaf_count t.tree ≡ n → HasEntries (IsEntry R t.tree) n name d → HasEntries (IsEntry R t.tree) (leaf_count t.tree) name d
of_tree R name d t n e h = subst (λ (m : ℕ). HasEntries (IsEntry R t.tree) m name d) (sym e) h

of_size : (R : Relation) (name : List ℕ) (d : Data) (t : RatchetTree) (n : ℕ) → leaf_count t.tree ≡ n → HasEntries (IsEntry R t.tree) (leaf_count t.tree) name d → HasEntries (IsEntry R t.tree) n name d
of_size R name d t n e h = subst (λ (m : ℕ). HasEntries (IsEntry R t.tree) m name d) e h

pub returns-then-not-has_number-2 : goal.returns-then-not-has_number-2
returns-then-not-has_number-2 c = λ t e.
    let count = ap (λ (n : ℕ). Some n) (let from = c.from.ensures in omega (arith, e, from)) in
    let nodes = c.has_number.ensures.0 c.if-not-has_number.false ∙ count in
    let node_index = ap (λ (n : ℕ). Some n) (let from = c.from-2.ensures in omega (arith, root-seen t c.args.leaves e, from)) in
    inr (nodes, inl (refl, λ h. let bad = c.has_number-2.ensures.1 (h ∙ sym node_index) in let known = c.if-not-has_number-2.true in true≢false (sym bad ∙ known)))

pub returns-then-not-has_entries : goal.returns-then-not-has_entries
returns-then-not-has_entries c = λ t e.
    let count = ap (λ (n : ℕ). Some n) (let from = c.from.ensures in omega (arith, e, from)) in
    let nodes = c.has_number.ensures.0 c.if-not-has_number.false ∙ count in
    let node_index = ap (λ (n : ℕ). Some n) (let from = c.from-2.ensures in omega (arith, root-seen t c.args.leaves e, from)) in
    let root = c.has_number-2.ensures.0 c.if-not-has_number-2.false ∙ node_index in
    inr (nodes, inr (root, inl (refl, λ h. let bad = (c.has_entries.ensures t e).1 (of_size IsLeftOrNone (codes "left") (view c.args.vector.now) t c.args.leaves e h) in let known = c.if-not-has_entries.true in true≢false (sym bad ∙ known))))

pub returns-then-not-has_entries-2 : goal.returns-then-not-has_entries-2
returns-then-not-has_entries-2 c = λ t e.
    let count = ap (λ (n : ℕ). Some n) (let from = c.from.ensures in omega (arith, e, from)) in
    let nodes = c.has_number.ensures.0 c.if-not-has_number.false ∙ count in
    let node_index = ap (λ (n : ℕ). Some n) (let from = c.from-2.ensures in omega (arith, root-seen t c.args.leaves e, from)) in
    let root = c.has_number-2.ensures.0 c.if-not-has_number-2.false ∙ node_index in
    let left = of_tree IsLeftOrNone (codes "left") (view c.args.vector.now) t c.args.leaves e ((c.has_entries.ensures t e).0 c.if-not-has_entries.false) in
    inr (nodes, inr (root, inr (left, inl (refl, λ h. let bad = (c.has_entries-2.ensures t e).1 (of_size IsRightOrNone (codes "right") (view c.args.vector.now) t c.args.leaves e h) in let known = c.if-not-has_entries-2.true in true≢false (sym bad ∙ known)))))

pub returns-then-not-has_entries-3 : goal.returns-then-not-has_entries-3
returns-then-not-has_entries-3 c = λ t e.
    let count = ap (λ (n : ℕ). Some n) (let from = c.from.ensures in omega (arith, e, from)) in
    let nodes = c.has_number.ensures.0 c.if-not-has_number.false ∙ count in
    let node_index = ap (λ (n : ℕ). Some n) (let from = c.from-2.ensures in omega (arith, root-seen t c.args.leaves e, from)) in
    let root = c.has_number-2.ensures.0 c.if-not-has_number-2.false ∙ node_index in
    let left = of_tree IsLeftOrNone (codes "left") (view c.args.vector.now) t c.args.leaves e ((c.has_entries.ensures t e).0 c.if-not-has_entries.false) in
    let right = of_tree IsRightOrNone (codes "right") (view c.args.vector.now) t c.args.leaves e ((c.has_entries-2.ensures t e).0 c.if-not-has_entries-2.false) in
    inr (nodes, inr (root, inr (left, inr (right, inl (refl, λ h. let bad = (c.has_entries-3.ensures t e).1 (of_size IsParentOrNone (codes "parent") (view c.args.vector.now) t c.args.leaves e h) in let known = c.if-not-has_entries-3.true in true≢false (sym bad ∙ known))))))

pub returns-then-not-has_entries-4 : goal.returns-then-not-has_entries-4
returns-then-not-has_entries-4 c = λ t e.
    let count = ap (λ (n : ℕ). Some n) (let from = c.from.ensures in omega (arith, e, from)) in
    let nodes = c.has_number.ensures.0 c.if-not-has_number.false ∙ count in
    let node_index = ap (λ (n : ℕ). Some n) (let from = c.from-2.ensures in omega (arith, root-seen t c.args.leaves e, from)) in
    let root = c.has_number-2.ensures.0 c.if-not-has_number-2.false ∙ node_index in
    let left = of_tree IsLeftOrNone (codes "left") (view c.args.vector.now) t c.args.leaves e ((c.has_entries.ensures t e).0 c.if-not-has_entries.false) in
    let right = of_tree IsRightOrNone (codes "right") (view c.args.vector.now) t c.args.leaves e ((c.has_entries-2.ensures t e).0 c.if-not-has_entries-2.false) in
    let parent = of_tree IsParentOrNone (codes "parent") (view c.args.vector.now) t c.args.leaves e ((c.has_entries-3.ensures t e).0 c.if-not-has_entries-3.false) in
    inr (nodes, inr (root, inr (left, inr (right, inr (parent, inl (refl, λ h. let bad = (c.has_entries-4.ensures t e).1 (of_size IsSiblingOrNone (codes "sibling") (view c.args.vector.now) t c.args.leaves e h) in let known = c.if-not-has_entries-4.true in true≢false (sym bad ∙ known)))))))

pub returns : goal.returns
returns c = λ t e.
    let count = ap (λ (n : ℕ). Some n) (let from = c.from.ensures in omega (arith, e, from)) in
    let nodes = c.has_number.ensures.0 c.if-not-has_number.false ∙ count in
    let node_index = ap (λ (n : ℕ). Some n) (let from = c.from-2.ensures in omega (arith, root-seen t c.args.leaves e, from)) in
    let root = c.has_number-2.ensures.0 c.if-not-has_number-2.false ∙ node_index in
    let left = of_tree IsLeftOrNone (codes "left") (view c.args.vector.now) t c.args.leaves e ((c.has_entries.ensures t e).0 c.if-not-has_entries.false) in
    let right = of_tree IsRightOrNone (codes "right") (view c.args.vector.now) t c.args.leaves e ((c.has_entries-2.ensures t e).0 c.if-not-has_entries-2.false) in
    let parent = of_tree IsParentOrNone (codes "parent") (view c.args.vector.now) t c.args.leaves e ((c.has_entries-3.ensures t e).0 c.if-not-has_entries-3.false) in
    let sibling = of_tree IsSiblingOrNone (codes "sibling") (view c.args.vector.now) t c.args.leaves e ((c.has_entries-4.ensures t e).0 c.if-not-has_entries-4.false) in
    (nodes, (root, (left, (right, (parent, (sibling, tt))))))
