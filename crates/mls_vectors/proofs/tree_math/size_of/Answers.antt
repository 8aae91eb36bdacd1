use Rattle.std.proofs.Common.{ℕ, ◌∙◌, sym, ap, not, is_some, Option, Some, true≢false, inl, inr, arith}
use Rattle.std.proofs.lemmas.Option.{same_Some}
use Rattle.mls_vectors.proofs.Columns.{tree_of_size, leaves_low}
use Rattle.mls_vectors.proofs.tree_math.size_of.Goals as goal

pub returns-then-leaves-gt-MAX_LEAVES-clause-none : goal.returns-then-leaves-gt-MAX_LEAVES-clause-none
returns-then-leaves-gt-MAX_LEAVES-clause-none c = λ t e.
    let said = same_Some _ _ (sym c.in_ok-leaves.was ∙ c.whole_under.ensures ∙ e) in
    omega (arith, said, leaves_low t, c.if-leaves-gt-MAX_LEAVES.true)

pub returns-clause-some : goal.returns-clause-some
returns-clause-some c =
    elim (tree_of_size c.in_ok-leaves.leaves) [
      | inl t ↦ (t.0, t.1, sym c.whole_under.ensures ∙ c.in_ok-leaves.was ∙ ap (λ v. Some v) (sym t.1))
      | inr none ↦ absurd (let root = c.root.ensures.no_tree none in true≢false (sym (c.is_none.ensures ∙ ap not c.if-is_none.false) ∙ ap (λ (o : Option ℕ). is_some o) root))
    ]
