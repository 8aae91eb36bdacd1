use Rattle.std.proofs.Common.{ℕ, Option, sym, subst, ◌∙◌}
use Rattle.std.specs.Prelude.{MatchOption}
use Rattle.mls_tree.proofs.FirstBlanks.{next_blank_leaf-zero, first_blank_leaf-leftmost}
use Rattle.mls_tree.specs.BlankLeaves.{IsFirstBlank, AllLeavesNonBlank}
use Rattle.mls_tree.proofs.node_array.NodeArray.first_blank_leaf.Goals as goal

pub returns-clause-first : goal.returns-clause-first
returns-clause-first c = c.next_blank_leaf.ensures ∙ next_blank_leaf-zero 0 c.args.self.now.tree

pub returns-clause-leftmost : goal.returns-clause-leftmost
returns-clause-leftmost c =
    let t = c.args.self.now.tree in
    subst (λ (o : Option ℕ). MatchOption o (AllLeavesNonBlank t) (λ j. IsFirstBlank t j)) (sym (c.next_blank_leaf.ensures ∙ next_blank_leaf-zero 0 t)) (first_blank_leaf-leftmost t)
