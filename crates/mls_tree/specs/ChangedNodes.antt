-- Where two trees may differ. Used by contracts.
use Rattle.std.specs.Prelude.{◌≡◌, ℕ, ◌==◌, false, List}
use Rattle.std.specs.List.{list_any}
use Rattle.mls_tree.specs.Tree.{Tree, node_at}

-- `AgreeExceptAt node_indices old new`: at each node index that is not in the list, the trees have the same node, or
-- none.
abbrev pub AgreeExceptAt : List ℕ → Tree → Tree → Type 0
AgreeExceptAt node_indices old new = (p : ℕ) → list_any (λ q. q == p) node_indices ≡ false → node_at old p ≡ node_at new p
