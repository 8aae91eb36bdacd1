use Rattle.std.proofs.Common.{◌≡◌, true, false, map, ◌∙◌, arith}
use Rattle.std.proofs.lemmas.List.{length-map}
use Rattle.mls_nodes.specs.NodeValues.{entry_value}
use Rattle.mls_nodes.proofs.Entries.{tree_again, tree_few}
use Rattle.mls_tree.proofs.Filled.{filled_listing}
use Rattle.mls_hash.specs.SuiteHash.{hash_of}
use Rattle.mls_hash.proofs.EncodedLeaves.{hashes_of_leaves}
use Rattle.mls_hash.proofs.decode.decode_with_leaf_hashes.Goals as goal

pub append_blanks-requires : goal.append_blanks-requires
append_blanks-requires c =
    let nodes = map entry_value c.in_ok-entries.entries.items in
    let read = tree_again c.args.bytes.items nodes c.in_ok-entries.ensures.entries.0 in
    omega (arith, length-map c.in_ok-entries.entries.items entry_value, tree_few c.args.bytes.items nodes read)

pub put_leaf_hashes-requires : goal.put_leaf_hashes-requires
put_leaf_hashes-requires c =
    hashes_of_leaves (hash_of c.args.suite) (map entry_value c.in_ok-entries.entries.items) c.in_ok-entries.hashes.hashes c.in_ok-entries.ensures.hashes c.in-Ok.tree.tree
    (c.in-Ok.ensures.tree ∙ c.in_ok-entries-2.ensures.full)

pub unreachable-requires : goal.unreachable-requires
unreachable-requires c =
    let nodes = map entry_value c.in_ok-entries.entries.items in
    let bad : false ≡ true = c.in-Err.ensures.is_listing.1 (filled_listing nodes c.args.bytes.items c.in_ok-entries-2.entries.items c.in_ok-entries.ensures.entries.0 c.in_ok-entries-2.ensures.full) in
    cc
