use Rattle.std.proofs.Common.{◌∙◌, ap}
use Rattle.mls_check.specs.LeafValidation.{contains_code}
use Rattle.mls_check.proofs.IncreasingCodes.{required-same}
use Rattle.mls_check.proofs.sorted_requirements.SortedRequirements.new.Goals as goal

pub returns : goal.returns
returns c =
    required-same _ c.args.requirements.now
    (λ code. c.in_ok-extensions.ensures.same code ∙ ap (λ xs. contains_code xs code) c.as_slice.ensures.items)
    (λ code. c.in_ok-proposals.ensures.same code ∙ ap (λ xs. contains_code xs code) c.as_slice-2.ensures.items)
    (λ code. c.in_ok-credentials.ensures.same code ∙ ap (λ xs. contains_code xs code) c.as_slice-3.ensures.items)
