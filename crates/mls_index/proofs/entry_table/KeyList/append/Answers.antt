use Rattle.mls_index.proofs.Tables.{listed-more}
use Rattle.mls_index.proofs.entry_table.KeyList.append.Goals as goal

pub returns : goal.returns
returns c = λ x is h. listed-more x c.args.self.now _ c.args.node_index c.args.number is c.in_ok-push.ensures.pushed c.in_ok-put_entry.ensures h
