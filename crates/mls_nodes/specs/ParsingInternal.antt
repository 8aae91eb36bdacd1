-- Reading nodes, GroupContexts and trees from left to right, as functions of the input. Internal: no public contract
-- uses this, except that of `Decode::read`.
use Rattle.std.specs.Prelude.{◌≡◌, ◌≤◌, ℕ, ◌+◌, ◌%◌, List, [], ◌∷◌, length, take, drop, Bool, ◌&&◌, Option, Some, None, Result, Ok, Err, nat_eq, nat_le, if◌then◌else◌}
use Rattle.std.specs.Int.{w8, w16, w32, w64}
use Rattle.mls_wire.specs.Input.{Input, at}
use Rattle.mls_wire.specs.Limits.{input_limit}
use Rattle.mls_wire.specs.Parsing.{◌>>=◌, number_at, vector_at, list_at, body_at, items_at}
use Rattle.mls_wire.specs.ParsingInternal.{optional_at}
use Rattle.mls_nodes.specs.Limits.{leaf_limit, entry_limit}
use Rattle.mls_nodes.specs.NodeModel.{NodeValue, leaf_node, parent_node}
use Rattle.mls_nodes.specs.LeafParsing.{extension_at, leaf_node_at}
use Rattle.mls_nodes.specs.RatchetTreeEncoding.{fit_from, has_valid_layout, ends_non_blank}
use Rattle.mls_nodes.specs.declared.parent.ParentNode.{ParentNode}
use Rattle.mls_nodes.specs.declared.context.GroupContext.{GroupContext}
use Rattle.mls_nodes.specs.RatchetTreeReading.{RatchetTreeReaderModel}
use Rattle.mls_nodes.specs.declared.ratchet_tree.progress.Progress.{Progress}
use Rattle.mls_nodes.specs.declared.fault.NodeFault.{NodeFault}
use Rattle.mls_nodes.specs.declared.fault.NodeFault.TheVariants as faults

-- `unmerged_at i` is the list of unmerged leaves at the front, within its limit.
unfoldable pub unmerged_at : Input → Option (List ℕ × Input)
unmerged_at i = do
  leaves ← list_at (number_at w32) i
  if nat_le (length leaves.0) leaf_limit then Some (leaves.0, leaves.1) else None

-- `parent_node_at i` is the parent node at the front.
unfoldable pub parent_node_at : Input → Option (ParentNode × Input)
parent_node_at i = do
  encryption_key ← vector_at i
  parent_hash ← vector_at encryption_key.1
  unmerged ← unmerged_at parent_hash.1
  Some (record { encryption_key = encryption_key.0; parent_hash = parent_hash.0; unmerged = unmerged.0 }, unmerged.1)

-- `node_model_at i` is the node at the front.
unfoldable pub node_model_at : Input → Option (NodeValue × Input)
node_model_at i = do
  kind ← number_at w8 i
  if nat_eq kind.0 1 then (leaf_node_at kind.1 >>= λ x. Some (leaf_node x.0, x.1))
      else if nat_eq kind.0 2 then (parent_node_at kind.1 >>= λ x. Some (parent_node x.0, x.1))
      else None

-- `node_in node_index i` is the node at the front, which may be at this node index. Its type is checked before its
-- body.
unfoldable pub node_in : ℕ → Input → Option (NodeValue × Input)
node_in node_index i = do
  kind ← number_at w8 i
  if nat_eq kind.0 1 && nat_eq (node_index % 2) 0 then (leaf_node_at kind.1 >>= λ x. Some (leaf_node x.0, x.1))
      else if nat_eq kind.0 2 && nat_eq (node_index % 2) 1 then (parent_node_at kind.1 >>= λ x. Some (parent_node x.0, x.1))
      else None

-- `group_context_at i` is the GroupContext at the front.
unfoldable pub group_context_at : Input → Option (GroupContext × Input)
group_context_at i = do
  version ← number_at w16 i
  cipher_suite ← number_at w16 version.1
  group_id ← vector_at cipher_suite.1
  epoch ← number_at w64 group_id.1
  tree_hash ← vector_at epoch.1
  confirmed ← vector_at tree_hash.1
  extensions ← list_at extension_at confirmed.1
  Some (
    record {
      version = version.0;
      cipher_suite = cipher_suite.0;
      group_id = group_id.0;
      epoch = epoch.0;
      tree_hash = tree_hash.0;
      confirmed = confirmed.0;
      extensions = extensions.0;
    },
    extensions.1,
  )

-- `well_laid_out nodes` is the entries, if each may be at its node index.
abbrev pub well_laid_out : Option (List (Option NodeValue)) → Option (List (Option NodeValue))
well_laid_out None = None
well_laid_out (Some nodes) = if has_valid_layout nodes then Some nodes else None

-- `tree_at bytes` is the entries of a ratchet_tree up to the last non-blank one, read from all of the bytes.
unfoldable pub tree_at : List ℕ → Option (List (Option NodeValue))
tree_at bytes = do
  body ← body_at (at 0 bytes)
  nodes ← well_laid_out (items_at (optional_at node_model_at) (length body.0.left) body.0)
  if ends_non_blank nodes then (if nat_eq (length body.1.left) 0 then Some nodes else None) else None

-- `ends_after is_non_blank nodes`: the last of these entries is non-blank, or there are none and `is_non_blank` says so of
-- the one before them.
abbrev pub ends_after : Bool → List (Option NodeValue) → Bool
ends_after is_non_blank [] = is_non_blank
ends_after is_non_blank (x ∷ xs) = ends_non_blank (x ∷ xs)

-- `ending node_index is_non_blank is_whole nodes` is the entries, the first at this node index, if each may be at its
-- node index, they end in a non-blank one, and `is_whole` says that no byte is after them.
abbrev pub ending : ℕ → Bool → Bool → Option (List (Option NodeValue)) → Option (List (Option NodeValue))
ending node_index is_non_blank is_whole None = None
ending node_index is_non_blank is_whole (Some nodes) =
    if (fit_from node_index nodes && nat_le (node_index + length nodes) entry_limit) && (ends_after is_non_blank nodes && is_whole) then Some nodes else None

-- `rest_at node_index is_non_blank after body` is the last entries of a ratchet_tree, which are all of `body`. `after` is
-- the input after the vector.
unfoldable pub rest_at : ℕ → Bool → Input → Input → Option (List (Option NodeValue))
rest_at node_index is_non_blank after body =
    ending node_index is_non_blank (nat_eq (length after.left) 0) (items_at (optional_at node_model_at) (length body.left) body)

-- `reader_model progress after body` is the model of a reader of `body`, the unread bytes of entries. `after` is the input
-- after the vector.
abbrev pub reader_model : Progress → Input → Input → RatchetTreeReaderModel
reader_model progress after body = record {
  node_index = progress.node_index;
  unread = body.left;
  rest = rest_at progress.node_index progress.is_last_non_blank after body;
}

-- `unread_model progress offset count bytes` is the model of a reader of the first `count` of the bytes, which begin at
-- an offset of the input. The others are after the vector.
abbrev pub unread_model : Progress → ℕ → ℕ → List ℕ → RatchetTreeReaderModel
unread_model progress offset count bytes = reader_model progress (at (offset + count) (drop count bytes)) (at offset (take count bytes))

-- `ReadsVector bytes result`: the call returned readers of the body of the vector at the front of the bytes, and of what
-- is after it. A fault comes only if there is no vector within the limit of an input.
abbrev pub ReadsVector : List ℕ → Result (Input × Input) NodeFault → Type 0
ReadsVector bytes (Ok parts) = (length bytes ≤ input_limit) × (body_at (at 0 bytes) ≡ Some (parts.0, parts.1))
ReadsVector bytes (Err e) = length bytes ≤ input_limit → body_at (at 0 bytes) ≡ None

-- `GivesNode read old new result`: a call returned what `read` returns, with the rest of the input. On error nothing is
-- said of the rest.
abbrev pub GivesNode : {A : Type 0} → (Input → Option (A × Input)) → Input → Input → Result A NodeFault → Type 0
GivesNode read old new (Ok x) = read old ≡ Some (x, new)
GivesNode read old new (Err faults.OutOfMemory) = Unit {0}
GivesNode read old new (Err e) = read old ≡ None
