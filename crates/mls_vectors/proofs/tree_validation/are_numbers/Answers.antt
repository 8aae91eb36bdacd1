use Rattle.std.proofs.Common.{◌≡◌, ◌∙◌, ◌==◌, ℕ, List, [], ◌∷◌, length, sym, ap, refl, arith}
use Rattle.std.proofs.lemmas.List.{nil_from_length}
use Rattle.serde_json.specs.Data.{Items, no_items}
use Rattle.serde_json.specs.View.{items_view}
use Rattle.mls_vectors.specs.TreeValidation as trees
use Rattle.mls_vectors.proofs.tree_validation.are_numbers.Goals as goal

ends : (ns : List ℕ) → (length ns == 0) ≡ trees.are_numbers ns no_items
ends [] = refl
ends (n ∷ ns) = grind arith

pub returns : goal.returns
returns c =
    let none = ap items_view (nil_from_length c.loop-value.values.now c.in_default.ensures.cases) in
    c.is_empty.ensures ∙ ends c.loop-value.numbers.now ∙ ap (λ (ds : Items). trees.are_numbers c.loop-value.numbers.now ds) (sym none) ∙ sym c.loop-value.invariant
