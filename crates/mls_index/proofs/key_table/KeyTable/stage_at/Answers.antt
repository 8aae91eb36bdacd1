use Rattle.std.proofs.Common.{◌∙◌, refl, sym}
use Rattle.mls_index.proofs.KeyTables.{adds-nothing, covers-more, here-none}
use Rattle.mls_index.proofs.key_table.KeyTable.stage_at.Goals as goal

pub returns-in_default-clause-index_contains_keys : goal.returns-in_default-clause-index_contains_keys
returns-in_default-clause-index_contains_keys c = λ rest h.
    let k = c.args.self.now in
    covers-more c.args.kind c.args.tree.now.tree k k c.args.node_index rest
    (here-none c.args.kind c.args.tree.now.tree k c.args.node_index (sym c.prefix_at.ensures ∙ c.in_default.is)) (λ b q had. had) (λ b q had. had) h

pub returns-in_default-clause-numbers : goal.returns-in_default-clause-numbers
returns-in_default-clause-numbers c = adds-nothing c.args.kind c.args.tree.now.tree c.args.self.now c.args.self.now refl refl

pub add_prefix-requires-clause-prefix : goal.add_prefix-requires-clause-prefix
add_prefix-requires-clause-prefix c = sym c.prefix_at.ensures ∙ c.in-Some.is

pub add_prefix-requires-clause-no_other : goal.add_prefix-requires-clause-no_other
add_prefix-requires-clause-no_other c = c.has_other.ensures c.if-has_other.false
