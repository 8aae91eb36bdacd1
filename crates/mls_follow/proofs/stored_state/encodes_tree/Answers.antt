use Rattle.std.proofs.Common.{◌≡◌, ◌∙◌, length, map, sym, ap, arith}
use Rattle.std.proofs.lemmas.Bool.Decides.{Decides-eqb}
use Rattle.std.proofs.lemmas.List.{length-map}
use Rattle.mls_nodes.specs.NodeValues.{entry_value}
use Rattle.mls_nodes.specs.RatchetTreeEncoding.{trimmed}
use Rattle.mls_tree.specs.PublicTreeModel.{plain}
use Rattle.mls_tree.specs.Tree.{listing}
use Rattle.mls_follow.proofs.Storing.{same_when, other_when}
use Rattle.mls_follow.proofs.StoredTrees.{trimmed-fits, stored_sizes}
use Rattle.mls_follow.proofs.stored_state.encodes_tree.Goals as goal

pub full_size_of-requires : goal.full_size_of-requires
full_size_of-requires c =
    let same : map entry_value c.trimmed_entries-count.result.now ≡ trimmed (listing c.args.tree.now.tree) = c.trimmed_entries-count.ensures ∙ ap trimmed c.nodes-nodes.ensures in
    omega (arith, length-map c.trimmed_entries-count.result.now entry_value, ap length same, trimmed-fits (plain c.args.tree.now))

pub returns-then-bytes-le-MAX_INPUT-clause-same : goal.returns-then-bytes-le-MAX_INPUT-clause-same
returns-then-bytes-le-MAX_INPUT-clause-same c =
    let sizes = stored_sizes entry_value c.nodes-nodes.result.now c.trimmed_entries-count.result.now (plain c.args.tree.now) c.full_size_of.result c.nodes-nodes.ensures c.trimmed_entries-count.ensures c.full_size_of.ensures in
    same_when c.args.bytes.now (plain c.args.tree.now) c.requires _ (omega (arith, c.if-bytes-le-MAX_INPUT.true))
    (λ h. sym sizes.0 ∙ (Decides-eqb c.full_size_of.result (length c.nodes-nodes.result.now)).0 h ∙ sizes.1)

pub returns-then-bytes-le-MAX_INPUT-clause-other : goal.returns-then-bytes-le-MAX_INPUT-clause-other
returns-then-bytes-le-MAX_INPUT-clause-other c =
    let sizes = stored_sizes entry_value c.nodes-nodes.result.now c.trimmed_entries-count.result.now (plain c.args.tree.now) c.full_size_of.result c.nodes-nodes.ensures c.trimmed_entries-count.ensures c.full_size_of.ensures in
    other_when c.args.bytes.now (plain c.args.tree.now) c.requires _
    (λ h. (Decides-eqb c.full_size_of.result (length c.nodes-nodes.result.now)).1 (sizes.0 ∙ h ∙ sym sizes.1))
