use Rattle.mls_check.proofs.Distinctness.{distinct-none_repeated}
use Rattle.mls_check.proofs.distinct_keys.has_distinct_keys.Goals as goal

pub returns : goal.returns
returns c = distinct-none_repeated c.args.tree.now.tree c.in_ok-first_repeated.field-0 c.in_ok-first_repeated.ensures c.is_none.result c.is_none.ensures
