use Rattle.std.proofs.Common.{refl}
use Rattle.std.proofs.lemmas.Result.{on_ok_weaker}
use Rattle.mls_index.proofs.KeyTables.{adds-nothing, adds-prefix, base-same, base-prefix, covers-more, here-prefix}
use Rattle.mls_index.proofs.key_table.KeyTable.add_prefix.Goals as goal

pub returns-in_err-stage_long-clause-index_base : goal.returns-in_err-stage_long-clause-index_base
returns-in_err-stage_long-clause-index_base c = λ t h. base-same c.args.kind t c.args.self.now _ refl refl h

pub returns-in_err-stage_long-clause-numbers : goal.returns-in_err-stage_long-clause-numbers
returns-in_err-stage_long-clause-numbers c = adds-nothing c.args.kind c.args.tree.now.tree c.args.self.now _ refl refl

pub returns-clause-index_base : goal.returns-clause-index_base
returns-clause-index_base c = λ t h.
    base-prefix c.args.kind t c.args.self.now _ c.args.prefix c.args.node_index c.insert_at.ensures.index_base c.insert_at.ensures.adds_only c.requires.no_other refl h

pub returns-clause-index_contains_keys : goal.returns-clause-index_contains_keys
returns-clause-index_contains_keys c =
    on_ok_weaker c.insert_at.result
    (λ here rest h.
    covers-more c.args.kind c.args.tree.now.tree c.args.self.now _ c.args.node_index rest
    (here-prefix c.args.kind c.args.tree.now.tree _ c.args.node_index c.args.prefix c.requires.prefix here) c.insert_at.ensures.remaining (λ b q had. had) h)
    c.insert_at.ensures.here

pub returns-clause-numbers : goal.returns-clause-numbers
returns-clause-numbers c =
    adds-prefix c.args.kind c.args.tree.now.tree c.args.self.now _ c.args.prefix c.args.node_index c.requires.prefix c.insert_at.ensures.adds_only refl
