use Rattle.std.proofs.Common.{◌≡◌}
use Rattle.std.proofs.lemmas.Option.{same_Some}
use Rattle.mls_c.proofs.tree_exports.mls_validate_tree_strict.Goals as goal

pub returns-clause-finds : goal.returns-clause-finds
returns-clause-finds c =
    λ asked encodes whole.
    (let same : c.in-Some.asked ≡ asked = same_Some _ _ (c.in-Some.ensures.inverse asked encodes) in
    rw same at (c.put_tree_finding.ensures.finds whole))
