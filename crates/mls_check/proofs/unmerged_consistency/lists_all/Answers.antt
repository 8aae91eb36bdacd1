use Rattle.std.proofs.Common.{List, ℕ, sym, ap, ◌∙◌}
use Rattle.std.specs.List.{list_all}
use Rattle.std.specs.Option.{option_copied}
use Rattle.mls_check.specs.UnmergedLists.{is_blank_or_lists}
use Rattle.mls_check.proofs.Walks.{all-true}
use Rattle.mls_check.proofs.unmerged_consistency.lists_all.Goals as goal

pub returns-in-None : goal.returns-in-None
returns-in-None c =
    let leaves : List ℕ = c.args.leaves.now in
    sym (ap (λ o. list_all (λ i. is_blank_or_lists (option_copied o) i) leaves) c.in-None.is ∙ all-true leaves)
