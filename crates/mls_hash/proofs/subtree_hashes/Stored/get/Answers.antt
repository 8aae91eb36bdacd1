use Rattle.std.proofs.Common.{◌∙◌, sym}
use Rattle.mls_hash.proofs.CachedLists.{get-cached, past-cached}
use Rattle.mls_hash.proofs.subtree_hashes.Stored.get.Goals as goal

pub returns-then-node_index-count : goal.returns-then-node_index-count
returns-then-node_index-count c =
    let filled = rw c.in-InTree.is at c.requires in
    rw c.in-InTree.is (c.kept_hash.ensures.kept ∙ get-cached c.in-InTree.count c.in-InTree.tree.now.slots filled c.args.node_index c.if-node_index-count.true)

pub returns-else-node_index-count : goal.returns-else-node_index-count
returns-else-node_index-count c =
    let filled = rw c.in-InTree.is at c.requires in
    rw c.in-InTree.is (sym (past-cached c.in-InTree.count c.in-InTree.tree.now.slots filled c.args.node_index c.if-node_index-count.false))
