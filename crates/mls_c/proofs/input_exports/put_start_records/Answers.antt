use Rattle.mls_c.specs.Starts.{QueriesStart}
use Rattle.mls_c.proofs.input_exports.put_start_records.Goals as goal

pub returns-in-Ok : goal.returns-in-Ok
returns-in-Ok g c =
    QueriesStart.lists c.in-Ok.list.items c.put_sized.result c.in-Ok.ensures.records (rw c.as_slice.ensures.value at c.put_sized.ensures) c.plain_verdict.ensures
