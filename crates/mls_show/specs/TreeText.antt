-- The lines of `show tree` (RFC 9420, 7.1, 7.2 and Appendix C). Used by contracts.
use Rattle.std.specs.Prelude.{ℕ, ◌+◌, ◌/◌, List, [], ◌∷◌, ◌++◌, length, codes, Option, Some, None}
use Rattle.std.specs.Fmt.{decimal}
use Rattle.mls_nodes.specs.NodeModel.{NodeValue, leaf_node, parent_node}
use Rattle.mls_nodes.specs.declared.leaf.LeafNode.{LeafNode}
use Rattle.mls_nodes.specs.declared.leaf_source.LeafSource.{LeafSource}
use Rattle.mls_nodes.specs.declared.leaf_source.LeafSource.TheVariants.{KeyPackage, Update, Commit}
use Rattle.mls_nodes.specs.declared.parent.ParentNode.{ParentNode}
use Rattle.mls_tree.specs.Tree.{leaves_among}
use Rattle.mls_show.specs.ValueTexts.{hex_text, numbers_text}

-- `source_text s` is the source of a leaf node (RFC 9420, 7.2): key_package with its lifetime, update, or commit with
-- its parent hash.
abbrev pub source_text : LeafSource → List ℕ
source_text (KeyPackage lifetime) =
    codes "key_package " ++ (decimal lifetime.not_before
    ++ (codes " " ++ decimal lifetime.not_after))
source_text Update = codes "update"
source_text (Commit parent_hash) = codes "commit " ++ hex_text parent_hash

-- `leaf_line node_index leaf` is the line of a leaf: its node index, its leaf index, its keys and its source.
abbrev pub leaf_line : ℕ → LeafNode → List ℕ
leaf_line node_index leaf =
    decimal node_index ++ (codes " leaf " ++ (decimal (node_index / 2)
    ++ (codes " " ++ (hex_text leaf.encryption_key
    ++ (codes " " ++ (hex_text leaf.signature_key
    ++ (codes " " ++ (source_text leaf.source ++ codes "\n"))))))))

-- `parent_line node_index parent` is the line of a parent (RFC 9420, 7.1): its node index, its key, its parent hash and
-- its unmerged leaves.
abbrev pub parent_line : ℕ → ParentNode → List ℕ
parent_line node_index parent =
    decimal node_index ++ (codes " parent " ++ (hex_text parent.encryption_key
    ++ (codes " " ++ (hex_text parent.parent_hash
    ++ (codes " " ++ (numbers_text parent.unmerged ++ codes "\n"))))))

-- `node_line node_index n` is the line of the node at a node index.
abbrev pub node_line : ℕ → Option NodeValue → List ℕ
node_line node_index None = decimal node_index ++ codes " blank\n"
node_line node_index (Some (leaf_node leaf)) = leaf_line node_index leaf
node_line node_index (Some (parent_node parent)) = parent_line node_index parent

-- `lines_by line node_index nodes` is what `line` gives for nodes, one after the other, the first of which is at node index
-- `node_index`.
abbrev pub lines_by : (ℕ → Option NodeValue → List ℕ) → ℕ → List (Option NodeValue) → List ℕ
lines_by line node_index [] = []
lines_by line node_index (node ∷ nodes) = line node_index node ++ lines_by line (node_index + 1) nodes

-- `tree_counts_line leaves members` is the last line: how many leaves the tree has, blank ones included, and how many
-- members.
abbrev pub tree_counts_line : ℕ → ℕ → List ℕ
tree_counts_line leaves members =
    codes "leaves " ++ (decimal leaves ++ (codes " members " ++ (decimal members ++ codes "\n")))

-- `text_by line nodes` is what `line` gives for each node, and the counts.
abbrev pub text_by : (ℕ → Option NodeValue → List ℕ) → List (Option NodeValue) → List ℕ
text_by line nodes = lines_by line 0 nodes ++ tree_counts_line ((length nodes + 1) / 2) (leaves_among nodes)

-- `tree_text nodes` is the report of a tree: a line for each node, and the counts.
abbrev pub tree_text : List (Option NodeValue) → List ℕ
tree_text nodes = text_by node_line nodes
