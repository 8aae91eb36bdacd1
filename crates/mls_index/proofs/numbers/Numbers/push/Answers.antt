use Rattle.std.proofs.Common.{◌≡◌, ◌∙◌, ◌∷◌, ◌++◌, [], List, Option, ℕ, ap}
use Rattle.std.specs.Prelude.{is_some, unwrap_or}
use Rattle.mls_index.specs.NumbersInternal.{optional_numbers}
use Rattle.mls_index.proofs.OptionalNumbers.{optional_numbers-append}
use Rattle.mls_index.proofs.numbers.Numbers.push.Goals as goal

pub returns-clause-pushed : goal.returns-clause-pushed
returns-clause-pushed c =
    let i = c.self.inside in
    let numbers : c.push_reserved.new.self.items ≡ i.numbers.items ++ unwrap_or c.args.number 0 ∷ []
    = c.push_reserved.ensures.items ∙ (λ j. c.try_reserve.ensures.items j ++ c.unwrap_or.ensures j ∷ []) in
    let are_some : c.push_reserved-2.new.self.items ≡ i.are_some.items ++ is_some c.args.number ∷ []
    = c.push_reserved-2.ensures.items ∙ (λ j. c.try_reserve-2.ensures.items j ++ c.is_some.ensures j ∷ []) in
    (λ j. optional_numbers (are_some j) (numbers j))
    ∙ optional_numbers-append i.are_some.items i.numbers.items c.args.number c.self.invariant
    ∙ ap (λ (v : List (Option ℕ)). v ++ c.args.number ∷ []) c.self.view_is
