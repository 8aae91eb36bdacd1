use Rattle.std.proofs.Common.{[], List, sym, ap, subst, map}
use Rattle.std.proofs.lemmas.List.{append-nil, nil_from_length}
use Rattle.serde_json.specs.Data.{Items}
use Rattle.serde_json.specs.View.{items_view}
use Rattle.mls_vectors.specs.CheckReport.{AreOutcomes}
use Rattle.mls_vectors.specs.CheckModel.{outcome_of}
use Rattle.mls_vectors.specs.VectorResults.{VectorResult}
use Rattle.mls_vectors.proofs.check.outcomes_by.Goals as goal

pub returns : goal.returns
returns c =
    let none = ap items_view (nil_from_length c.loop-vector.rest.now c.in_default.ensures.cases) in
    let all = c.loop-vector.invariant [] (subst (λ (vs : Items). AreOutcomes c.args.kind vs []) (sym none) tt) in
    subst (λ (os : List VectorResult). AreOutcomes c.args.kind (items_view c.args.vectors.now) os) (append-nil (map outcome_of c.loop-vector.outcomes.items)) all
