use Rattle.std.proofs.Common.{◌∙◌, refl, sym}
use Rattle.std.proofs.lemmas.Result.{on_ok_weaker}
use Rattle.mls_index.proofs.KeyTables.{adds-nothing, adds-fingerprint, base-same, base-fingerprint, covers-more, here-none-fingerprint, here-fingerprint}
use Rattle.mls_index.proofs.key_table.KeyTable.add_fingerprint.Goals as goal

pub returns-in_err-staged-clause-index_base : goal.returns-in_err-staged-clause-index_base
returns-in_err-staged-clause-index_base c = λ t h. base-same c.args.kind t c.args.self.now _ refl refl h

pub returns-in_err-staged-clause-numbers : goal.returns-in_err-staged-clause-numbers
returns-in_err-staged-clause-numbers c = adds-nothing c.args.kind c.args.tree.now.tree c.args.self.now _ refl refl

pub returns-in_default-clause-index_base : goal.returns-in_default-clause-index_base
returns-in_default-clause-index_base c = λ t h. base-same c.args.kind t c.args.self.now _ refl refl h

pub returns-in_default-clause-index_contains_keys : goal.returns-in_default-clause-index_contains_keys
returns-in_default-clause-index_contains_keys c = λ rest h.
    covers-more c.args.kind c.args.tree.now.tree c.args.self.now _ c.args.node_index rest
    (here-none-fingerprint c.args.kind c.args.tree.now.tree _ c.args.node_index (sym c.in_ok-staged.ensures ∙ c.in_default.is)) (λ b q had. had) (λ b q had. had) h

pub returns-in_default-clause-numbers : goal.returns-in_default-clause-numbers
returns-in_default-clause-numbers c = adds-nothing c.args.kind c.args.tree.now.tree c.args.self.now _ refl refl

pub returns-clause-index_base : goal.returns-clause-index_base
returns-clause-index_base c = λ t h. base-fingerprint c.args.kind t c.args.self.now _ c.insert_at.ensures.index_base refl h

pub returns-clause-index_contains_keys : goal.returns-clause-index_contains_keys
returns-clause-index_contains_keys c =
    on_ok_weaker c.insert_at.result
    (λ here rest h.
    covers-more c.args.kind c.args.tree.now.tree c.args.self.now _ c.args.node_index rest
    (here-fingerprint c.args.kind c.args.tree.now.tree _ c.args.node_index c.in-Some.number (sym c.in_ok-staged.ensures ∙ c.in-Some.is) here)
    (λ b q had. had) c.insert_at.ensures.remaining h)
    c.insert_at.ensures.here

pub returns-clause-numbers : goal.returns-clause-numbers
returns-clause-numbers c =
    adds-fingerprint c.args.kind c.args.tree.now.tree c.args.self.now _ c.in-Some.number c.args.node_index (sym c.in_ok-staged.ensures ∙ c.in-Some.is)
    c.insert_at.ensures.adds_only refl
