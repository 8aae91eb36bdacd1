use Rattle.std.proofs.Common.{◌≡◌, ◌∙◌, length, map, ap, arith}
use Rattle.std.specs.Prelude.{◌==◌}
use Rattle.std.proofs.lemmas.List.{length-map}
use Rattle.mls_nodes.specs.NodeValues.{entry_value}
use Rattle.mls_nodes.specs.RatchetTreeEncoding.{trimmed}
use Rattle.mls_tree.specs.PublicTreeModel.{plain}
use Rattle.mls_tree.specs.Tree.{listing}
use Rattle.mls_follow.proofs.StoredTrees.{trimmed-fits, stored_sizes}
use Rattle.mls_examine.proofs.current_infos.is_least.Goals as goal

pub full_size_of-requires : goal.full_size_of-requires
full_size_of-requires c =
    let same : map entry_value c.trimmed_entries-count.result.now ≡ trimmed (listing c.args.tree.now.tree) = c.trimmed_entries-count.ensures ∙ ap trimmed c.nodes-nodes.ensures in
    omega (arith, length-map c.trimmed_entries-count.result.now entry_value, ap length same, trimmed-fits (plain c.args.tree.now))

pub returns : goal.returns
returns c =
    let sizes = stored_sizes entry_value c.nodes-nodes.result.now c.trimmed_entries-count.result.now (plain c.args.tree.now) c.full_size_of.result c.nodes-nodes.ensures c.trimmed_entries-count.ensures c.full_size_of.ensures in
    λ i. sizes.0 i == sizes.1 i
