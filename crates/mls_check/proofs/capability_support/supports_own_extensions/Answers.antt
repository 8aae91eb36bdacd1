use Rattle.std.proofs.Common.{ap, ◌∙◌}
use Rattle.mls_check.specs.LeafValidation.{supports_own_extensions}
use Rattle.mls_check.proofs.IncreasingCodes.{own-types}
use Rattle.mls_check.proofs.capability_support.supports_own_extensions.Goals as goal

pub returns : goal.returns
returns c =
    c.in_ok-are_supported.ensures
    ∙ own-types c.fields-fields.result c.as_slice.result.now (c.as_slice.ensures.value ∙ c.in_ok-types.ensures)
    ∙ ap supports_own_extensions c.fields-fields.ensures
