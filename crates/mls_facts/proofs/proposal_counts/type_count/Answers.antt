use Rattle.std.proofs.Common.{◌∙◌, rules, tests}
use Rattle.std.proofs.lemmas.Iterator.{YieldsList-from_slice}
use Rattle.std.proofs.lemmas.Iterator.Consumers.{count_from_yields_List, YieldsList-from_filter}
use Rattle.std.proofs.lemmas.List.Sums.{length-filter}
use Rattle.mls_facts.specs.Facts.{has_type}
use Rattle.mls_facts.proofs.proposal_counts.type_count.Goals as goal

pub returns : goal.returns
returns c =
    count_from_yields_List c.filter.result _ c.count.ensures.ran
    (YieldsList-from_filter _ (has_type c.args.kind) (YieldsList-from_slice c.args.entries.now cc) c.filter.ensures.closure (λ x r q k. search (rules, tests)))
    ∙ length-filter (has_type c.args.kind) c.args.entries.now
