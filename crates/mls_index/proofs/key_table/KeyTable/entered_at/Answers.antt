use Rattle.std.proofs.Common.{◌≡◌, ◌∙◌, true, sym, subst}
use Rattle.std.proofs.lemmas.Option.{same_Some}
use Rattle.mls_index.specs.EntryTable.{is_entered}
use Rattle.mls_index.specs.NodeKeys.{key_at_node}
use Rattle.mls_index.proofs.KeyTables.{found-none, found-prefix, found-fingerprint, found-entered}
use Rattle.mls_index.proofs.key_table.KeyTable.entered_at.Goals as goal

pub returns-in_default-clause-numbers : goal.returns-in_default-clause-numbers
returns-in_default-clause-numbers c = found-none (key_at_node c.args.kind c.args.tree.now.tree c.args.node_index) (sym c.prefix_at.ensures ∙ c.in_default.is)

pub returns-then-contains-clause-numbers : goal.returns-then-contains-clause-numbers
returns-then-contains-clause-numbers c =
    found-prefix (key_at_node c.args.kind c.args.tree.now.tree c.args.node_index) c.in-Some.prefix (sym c.prefix_at.ensures ∙ c.in-Some.is)

pub returns-then-contains-clause-prefix : goal.returns-then-contains-clause-prefix
returns-then-contains-clause-prefix c = λ b is.
    subst (λ n. is_entered c.args.self.now.prefixes n c.args.node_index ≡ true) (same_Some c.in-Some.prefix b is) (sym c.contains.ensures ∙ c.if-contains.true)

pub returns-clause-numbers : goal.returns-clause-numbers
returns-clause-numbers c =
    found-fingerprint (key_at_node c.args.kind c.args.tree.now.tree c.args.node_index) c.fingerprint_at.result c.fingerprint_at.ensures

pub returns-clause-fingerprint : goal.returns-clause-fingerprint
returns-clause-fingerprint c = λ covers.
    found-entered c.args.self.now (key_at_node c.args.kind c.args.tree.now.tree c.args.node_index) c.args.node_index c.in-Some.prefix c.fingerprint_at.result
    (λ key there. covers key c.args.node_index there) (sym c.prefix_at.ensures ∙ c.in-Some.is) (sym c.contains.ensures ∙ c.if-contains.false) c.fingerprint_at.ensures
