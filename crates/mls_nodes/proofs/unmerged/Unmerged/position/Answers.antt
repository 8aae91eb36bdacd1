use Rattle.std.proofs.Common.{arith, ℕ, List, ◌≡◌, ◌∙◌, sym, ap, subst, nat_le, position}
use Rattle.std.specs.Prelude.{◌==◌}
use Rattle.std.specs.List.{position_or_len}
use Rattle.std.specs.List.Sorted.{IsNonDecreasing}
use Rattle.std.proofs.lemmas.Bool.{OnTrue_at}
use Rattle.mls_nodes.proofs.SortedLists.{sorted-first, sorted-none}
use Rattle.mls_nodes.proofs.unmerged.Unmerged.position.Goals as goal
use Rattle.mls_nodes.proofs.unmerged.Unmerged.position.Goals.{else-at-leaves-via-then-at-leaves+else-leaves-at, else-at-leaves-via-else-at-leaves}

pub returns-then-leaves-at : goal.returns-then-leaves-at
returns-then-leaves-at c =
    let xs : List ℕ = c.as_slice-leaves.result.now in
    let same : xs ≡ c.args.self.now = c.as_slice-leaves.ensures.items ∙ c.self.view_is in
    let at = c.insertion_point-at.ensures ∙ ap (λ (ys : List ℕ). position_or_len (λ x. nat_le c.args.leaf x) ys) (sym same) in
    sorted-first xs c.args.leaf c.insertion_point-at.result at c.if-at-leaves.true (omega (arith, c.if-leaves-at.true))
    ∙ ap (λ (ys : List ℕ). position (λ x. x == c.args.leaf) ys) same

pub returns-else-at-leaves : goal.returns-else-at-leaves
returns-else-at-leaves c =
    let xs : List ℕ = c.as_slice-leaves.result.now in
    let same : xs ≡ c.args.self.now = c.as_slice-leaves.ensures.items ∙ c.self.view_is in
    let at = c.insertion_point-at.ensures ∙ ap (λ (ys : List ℕ). position_or_len (λ x. nat_le c.args.leaf x) ys) (sym same) in
    let up : IsNonDecreasing xs = subst IsNonDecreasing (sym c.as_slice-leaves.ensures.items) (OnTrue_at c.if-not-self.false c.self.invariant.1) in
    sorted-none xs c.args.leaf c.insertion_point-at.result at up
    (λ l e. elim c.else-at-leaves.branch [
      | else-at-leaves-via-then-at-leaves+else-leaves-at w ↦ omega (arith, w.if-leaves-at, e)
      | else-at-leaves-via-else-at-leaves w ↦ omega (arith, w.if-at-leaves, l)
    ])
    ∙ ap (λ (ys : List ℕ). position (λ x. x == c.args.leaf) ys) same
