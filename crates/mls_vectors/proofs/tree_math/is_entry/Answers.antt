use Rattle.std.proofs.Common.{ℕ, ◌∙◌, sym, ap, subst, Some, None}
use Rattle.serde_json.specs.View.{view}
use Rattle.mls_vectors.specs.CheckModel.{relation}
use Rattle.mls_vectors.proofs.Columns.{entry-expected, entry-null, entry-some}
use Rattle.mls_vectors.proofs.tree_math.is_entry.Goals as goal

pub returns-in-None : goal.returns-in-None
returns-in-None c = λ t e.
    let w = subst (λ v. relation c.args.column t.tree c.args.node_index v) c.in-None.is (c.related_node_index.ensures t e) in
    let same = entry-expected c.args.column t c.args.node_index (view c.args.entry.now) None w in
    let here = entry-null (view c.args.entry.now) in
    (λ h. same.1 (here.0 (sym c.is_null.ensures ∙ h)), λ h. c.is_null.ensures ∙ here.1 (same.0 h))

pub returns-in-Some : goal.returns-in-Some
returns-in-Some c = λ t e.
    let w = subst (λ v. relation c.args.column t.tree c.args.node_index v) c.in-Some.is (c.related_node_index.ensures t e) in
    let same = entry-expected c.args.column t c.args.node_index (view c.args.entry.now) (Some c.in-Some.expected) w in
    let here = entry-some (view c.args.entry.now) c.in-Some.expected in
    let number = ap (λ (n : ℕ). Some n) c.from.ensures in
    (λ h. same.1 (here.0 (c.is_number.ensures.0 h ∙ number)), λ h. c.is_number.ensures.1 (here.1 (same.0 h) ∙ sym number))
