use Rattle.std.proofs.Common.{◌∙◌, rules, tests}
use Rattle.std.proofs.lemmas.Iterator.{YieldsList-from_slice}
use Rattle.std.proofs.lemmas.Iterator.Consumers.{count_from_yields_List, YieldsList-from_filter}
use Rattle.std.proofs.lemmas.List.Sums.{length-filter}
use Rattle.mls_facts.specs.Facts.{is_reference}
use Rattle.mls_facts.proofs.proposal_counts.reference_count.Goals as goal

pub returns : goal.returns
returns c =
    count_from_yields_List c.filter.result _ c.count.ensures.ran
    (YieldsList-from_filter _ is_reference (YieldsList-from_slice c.args.entries.now cc) c.filter.ensures.closure (λ x r q k. search (rules, tests)))
    ∙ length-filter is_reference c.args.entries.now
