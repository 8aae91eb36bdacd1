-- The entries of an array for the places of a tree.
use Rattle.std.proofs.Common.{◌≡◌, ◌∙◌, sym, ℕ, ◌+◌, ◌*◌, List, [], ◌∷◌, length, arith}
use Rattle.serde_json.specs.Data.{Data, Items, no_items, item}
use Rattle.serde_json.specs.View.{items_view}
use Rattle.serde_json.specs.declared.value.Value.{Value}
use Rattle.mls_tree.specs.Tree.{Tree}
use Rattle.mls_hash.specs.SubtreeHashes.{AreSubtreeHashes}
use Rattle.mls_vectors.specs.CheckModel.{IsKeptHash}
use Rattle.mls_vectors.specs.TreeValidation.{IsTreeHash}
use Rattle.mls_vectors.specs.VectorFile.{AreEntries, HasEntries}

-- there are as many as places from p on
pub AreEntries-length : (E : ℕ → Data → Type 0) (leaves p : ℕ) (vs : List Value) → AreEntries E leaves p (items_view vs) → p + length vs + 1 ≡ 2 * leaves
AreEntries-length E leaves p [] h = omega (arith, h)
AreEntries-length E leaves p (v ∷ vs) h = omega (arith, AreEntries-length E leaves (p + 1) vs h.1)

-- entries that are right in one way are so in another
pub AreEntries-weaker : (E F : ℕ → Data → Type 0) → ((p : ℕ) (d : Data) → E p d → F p d) → (leaves p : ℕ) (ds : Items) → AreEntries E leaves p ds → AreEntries F leaves p ds
AreEntries-weaker E F f leaves p no_items h = h
AreEntries-weaker E F f leaves p (item d ds) h = (f p d h.0, AreEntries-weaker E F f leaves (p + 1) ds h.1)

pub HasEntries-weaker : (E F : ℕ → Data → Type 0) → ((p : ℕ) (d : Data) → E p d → F p d) → (leaves : ℕ) (name : List ℕ) (d : Data) → HasEntries E leaves name d → HasEntries F leaves name d
HasEntries-weaker E F f leaves name d h = record { entries = h.entries; found = h.found; right = AreEntries-weaker E F f leaves 0 h.entries h.right }

-- the hashes that are kept are the tree hashes
pub kept-tree_hash : (H : List ℕ → List ℕ) (t : Tree) (hashes : List (List ℕ)) → AreSubtreeHashes H t hashes → (p : ℕ) (d : Data) → IsKeptHash hashes p d → IsTreeHash H t p d
kept-tree_hash H t hashes all p d h = record { hash = h.hash; hashed = sym (all p) ∙ h.cached; same = h.same }

pub tree_hash-kept : (H : List ℕ → List ℕ) (t : Tree) (hashes : List (List ℕ)) → AreSubtreeHashes H t hashes → (p : ℕ) (d : Data) → IsTreeHash H t p d → IsKeptHash hashes p d
tree_hash-kept H t hashes all p d h = record { hash = h.hash; cached = all p ∙ h.hashed; same = h.same }
