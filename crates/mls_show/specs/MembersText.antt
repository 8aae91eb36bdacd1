-- The lines of `show members` (RFC 9420, 5.3 and 7.2). Used by contracts.
use Rattle.std.specs.Prelude.{ℕ, ◌/◌, List, [], ◌++◌, codes, Option, Some, None}
use Rattle.std.specs.Fmt.{decimal}
use Rattle.mls_nodes.specs.NodeModel.{NodeValue, leaf_node, parent_node}
use Rattle.mls_nodes.specs.declared.leaf.LeafNode.{LeafNode}
use Rattle.mls_show.specs.CredentialText.{credential_text}
use Rattle.mls_show.specs.TreeText.{text_by}
use Rattle.mls_show.specs.ValueTexts.{hex_text}

-- `member_line node_index leaf` is the line of the member at a node index: its leaf index, its credential and its signature
-- key.
abbrev pub member_line : ℕ → LeafNode → List ℕ
member_line node_index leaf =
    decimal (node_index / 2) ++ (codes " " ++ (credential_text leaf.credential
    ++ (codes " " ++ (hex_text leaf.signature_key ++ codes "\n"))))

-- `member_lines node_index n` is the line of a node that is a member, and nothing of any other node.
abbrev pub member_lines : ℕ → Option NodeValue → List ℕ
member_lines node_index None = []
member_lines node_index (Some (leaf_node leaf)) = member_line node_index leaf
member_lines node_index (Some (parent_node parent)) = []

-- `members_text nodes` is the report of the members of a tree: a line for each from left to right, and the counts.
abbrev pub members_text : List (Option NodeValue) → List ℕ
members_text nodes = text_by member_lines nodes
