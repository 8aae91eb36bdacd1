-- The tree hashes of leaves from the encodings of their entries.
use Rattle.std.proofs.Common.{◌≡◌, ℕ, ◌+◌, ◌*◌, ◌-◌, ◌/◌, ◌%◌, ◌<◌, ◌^◌, List, [], ◌∷◌, ◌++◌, length, map, drop, replicate, append_assoc, Option, Some, None, refl, sym, ap, ◌∙◌, inl, inr, arith, length-append}
use Rattle.std.specs.Prelude.{option_map, slice_get}
use Rattle.std.specs.Int.{w8, w32, to_be_bytes}
use Rattle.std.proofs.lemmas.Bool.{cases_lt}
use Rattle.std.proofs.lemmas.Option.{slice_get_within, same_Some}
use Rattle.std.proofs.lemmas.List.{drop_at, map_push}
use Rattle.mls_wire.specs.Encoding.{◌⊕◌, number, optional}
use Rattle.mls_wire.specs.EncodingConcat.{joined, join}
use Rattle.mls_wire.specs.IntegersExact.{number_made, byte_made}
use Rattle.mls_nodes.specs.declared.leaf.LeafNode.{LeafNode}
use Rattle.mls_nodes.specs.Layout.{node, leaf as leaf_encoding}
use Rattle.mls_nodes.specs.NodeModel.{NodeValue, leaf_node}
use Rattle.mls_nodes.specs.NodeValues.{node_value, entry_value}
use Rattle.mls_nodes.specs.declared.node.Node.{Node}
use Rattle.mls_wire.specs.OptionalsExact.{optional_long}
use Rattle.mls_wire.specs.ListLoops.{with_front}
use Rattle.mls_nodes.specs.RatchetTreeReading.{with_first}
use Rattle.mls_nodes.proofs.RestOfTree.{ReadBefore}
use Rattle.mls_nodes.specs.RatchetTreeEncoding.{filled, full_size}
use Rattle.mls_nodes.specs.FilledTree.{filled-capacity}
use Rattle.mls_tree.specs.Tree.{Tree, leaf, branch, leaf_entry, listing, root_entry, root_node_index, Subtree, subtree_at}
use Rattle.mls_tree.specs.TreeHash.{leaf_tree_hash_input, tree_hash}
use Rattle.mls_tree.proofs.Growing.{slice_get-append_left}
use Rattle.mls_tree.proofs.Listings.{slice_get-append_right}
use Rattle.mls_tree.proofs.Positions.{listing-subtree_at}
use Rattle.mls_tree.proofs.Trees.{leaf_count-positive, length-listing, subtree_at-some, subtree_at-stands}
use Rattle.mls_hash.specs.EncodedLeaves.{AreEntryHashes, AreLeafHashes}

-- ---- one leaf

-- the optional leaf node in the encoding of an entry
abbrev optional_leaf : Option LeafNode → List ℕ → List ℕ
optional_leaf None encoding = encoding
optional_leaf (Some x) encoding = drop 1 encoding

encoded_leaf : (x : Option LeafNode) (encoding : List ℕ) → optional node (leaf_entry x) ≡ Some encoding → optional leaf_encoding x ≡ Some (optional_leaf x encoding)
unfolding optional node
encoded_leaf None encoding e = e
encoded_leaf (Some x) encoding e =
    let a = joined (Some (1 ∷ [])) (number w8 1 ⊕ leaf_encoding x) encoding e in
    let b = joined (number w8 1) (leaf_encoding x) a.1 a.3 in
    let one : 1 ∷ [] ≡ a.0 = same_Some _ _ a.2 in
    let kind : 1 ∷ [] ≡ b.0 = same_Some _ _ (sym (byte_made 1 (omega arith)) ∙ b.2) in
    let rest : drop 1 encoding ≡ (1 ∷ []) ++ b.1 =
    ap (drop 1) (a.4 ∙ ap (λ (s : List ℕ). s ++ a.1) (sym one)) ∙ drop_at (1 ∷ []) a.1 1 refl ∙ b.4 ∙ ap (λ (s : List ℕ). s ++ b.1) (sym kind) in
    join (Some (1 ∷ [])) (leaf_encoding x) (1 ∷ []) b.1 refl b.3 ∙ ap (λ (s : List ℕ). Some s) (sym rest)

-- it is that of an entry that is a leaf node
pub of_leaf : (o : Option Node) (n : Node) (encoding part : List ℕ) → o ≡ Some n → optional node (entry_value o) ≡ Some encoding → part ≡ drop 1 encoding
    → (x : Option LeafNode) → entry_value o ≡ leaf_entry x → optional leaf_encoding x ≡ Some part
of_leaf o n encoding part is e cut None same = let bad : Some (node_value n) ≡ None = sym (ap entry_value is) ∙ same in absurd cc
of_leaf o n encoding part is e cut (Some x) same = encoded_leaf (Some x) encoding (ap (optional node) (sym same) ∙ e) ∙ ap (λ (s : List ℕ). Some s) (sym cut)

-- and of one that is blank
pub of_blank : (o : Option Node) (encoding : List ℕ) → o ≡ None → optional node (entry_value o) ≡ Some encoding
    → (x : Option LeafNode) → entry_value o ≡ leaf_entry x → optional leaf_encoding x ≡ Some encoding
of_blank o encoding is e None same = encoded_leaf None encoding (ap (optional node) (sym same) ∙ e)
of_blank o encoding is e (Some x) same = let bad : None ≡ Some (leaf_node x) = sym (ap entry_value is) ∙ same in absurd cc

-- an entry has at least one byte
pub entry_some : (o : Option NodeValue) (encoding : List ℕ) → optional node o ≡ Some encoding → 0 < length encoding
entry_some o encoding e = optional_long node o encoding e

-- the hash of a leaf's input, which is the node type, the leaf index and the optional leaf node
pub leaf_input : (H : List ℕ → List ℕ) (i : ℕ) (x : Option LeafNode) (prefix part hash : List ℕ) → i < 2 ^ 32 → prefix ≡ 1 ∷ to_be_bytes w32 i → optional leaf_encoding x ≡ Some part
    → hash ≡ H (prefix ++ part) → option_map H (leaf_tree_hash_input i x) ≡ Some hash
leaf_input H i x prefix part hash small begins e is =
    ap (option_map H) (join (number w8 1) (number w32 i ⊕ optional leaf_encoding x) (1 ∷ []) (to_be_bytes w32 i ++ part) (byte_made 1 (omega arith))
    (join (number w32 i) (optional leaf_encoding x) (to_be_bytes w32 i) part (number_made w32 i small) e))
    ∙ ap (λ (s : List ℕ). Some (H (s ++ part))) (sym begins) ∙ ap (λ (s : List ℕ). Some s) (sym is)

-- ---- the hashes of the entries read so far

module _ (H : List ℕ → List ℕ) (nodes : List (Option NodeValue)) (e : Option NodeValue) (hashes : List (List ℕ)) (so_far : AreEntryHashes H nodes hashes) where
  before : (i : ℕ) (hash : List ℕ) (x : Option LeafNode) → i < length hashes → slice_get hashes i ≡ Some hash → slice_get (nodes ++ e ∷ []) (2 * i) ≡ Some (leaf_entry x)
      → option_map H (leaf_tree_hash_input i x) ≡ Some hash
  before i hash x lt at entry = so_far.right i hash x at (sym (slice_get-append_left nodes (e ∷ []) (2 * i) (omega (arith, so_far.count))) ∙ entry)

  -- an entry at the node index of a parent
  pub hashes_skip : length nodes % 2 ≡ 1 → AreEntryHashes H (nodes ++ e ∷ []) hashes
  hashes_skip odd = record {
    count = omega (arith, so_far.count, length-append nodes (e ∷ []));
    right = λ i hash x at entry. before i hash x (slice_get_within hashes i hash at) at entry;
  }

  -- an entry at the node index of a leaf
  pub hashes_push : (new : List ℕ) → length nodes % 2 ≡ 0 → ((x : Option LeafNode) → e ≡ leaf_entry x → option_map H (leaf_tree_hash_input (length nodes / 2) x) ≡ Some new)
      → AreEntryHashes H (nodes ++ e ∷ []) (hashes ++ new ∷ [])
  hashes_push new even is = record {
    count = omega (arith, so_far.count, length-append nodes (e ∷ []), length-append hashes (new ∷ []));
    right = λ i hash x at entry.
        elim (cases_lt i (length hashes)) [
          | inl lt ↦ before i hash x lt (sym (slice_get-append_left hashes (new ∷ []) i lt) ∙ at) entry
          | inr ge ↦
              (let under = slice_get_within (hashes ++ new ∷ []) i hash at in
              let last : i ≡ length hashes + 0 = omega (arith, length-append hashes (new ∷ [])) in
              let here : 2 * i ≡ length nodes + 0 = omega (arith, so_far.count) in
              let half : length nodes / 2 ≡ i = omega (arith, so_far.count) in
              let same : new ≡ hash = same_Some _ _ (sym (slice_get-append_right hashes (new ∷ []) 0) ∙ ap (slice_get (hashes ++ new ∷ [])) (sym last) ∙ at) in
              let entry_is : e ≡ leaf_entry x = same_Some _ _ (sym (slice_get-append_right nodes (e ∷ []) 0) ∙ ap (slice_get (nodes ++ e ∷ [])) (sym here) ∙ entry) in
              ap (λ (k : ℕ). option_map H (leaf_tree_hash_input k x)) (sym half) ∙ is x entry_is ∙ ap (λ (h : List ℕ). Some h) same)
        ];
  }

-- ---- the whole tree

module _ (H : List ℕ → List ℕ) (nodes : List (Option NodeValue)) (hashes : List (List ℕ)) (all : AreEntryHashes H nodes hashes) where
  by_tree : (i first : ℕ) (u : Tree) (hash : List ℕ) → 2 * i ≡ root_node_index first u → slice_get nodes (2 * i) ≡ Some (root_entry u) → slice_get hashes i ≡ Some hash → tree_hash H first u ≡ Some hash
  by_tree i first (leaf x) hash here entry at =
      let same : first ≡ i = omega arith in
      ap (λ (k : ℕ). option_map H (leaf_tree_hash_input k x)) same ∙ all.right i hash x at entry
  by_tree i first (branch l n r) hash here entry at = absurd (omega (arith, leaf_count-positive l))

  -- the leaves of the tree that the entries are filled up to
  pub hashes_of_leaves : (t : Tree) → listing t ≡ filled nodes → AreLeafHashes H t hashes
  hashes_of_leaves t full i hash at =
      let under = slice_get_within hashes i hash at in
      let inside : 2 * i < length nodes = omega (arith, all.count) in
      let few = filled-capacity nodes in
      let s = subtree_at-some 0 t (2 * i) (omega arith) (omega (arith, length-listing t, ap length full)) in
      let stands = subtree_at-stands 0 t (2 * i) s.0 s.1 in
      let begin : 2 * 0 + 2 * i ≡ 2 * i = omega arith in
      let listed = listing-subtree_at 0 t (2 * i) ∙ ap (λ (k : ℕ). option_map (λ (v : Subtree). root_entry v.tree) (subtree_at 0 t k)) begin ∙ ap (option_map (λ (v : Subtree). root_entry v.tree)) s.1 in
      let entry : slice_get nodes (2 * i) ≡ Some (root_entry s.0.tree) =
      sym (slice_get-append_left nodes (replicate (full_size (length nodes) - length nodes) None) (2 * i) inside) ∙ ap (λ (ns : List (Option NodeValue)). slice_get ns (2 * i)) (sym full) ∙ listed in
      rw s.1 (by_tree i s.0.first s.0.tree hash stands.node_index entry at)

-- ---- the entries read so far

-- one more entry was read
pub read_more : (bytes : List ℕ) (xs ys : List (Option Node)) (x : Option Node) (old new : Option (List (Option NodeValue))) → ReadBefore bytes (map entry_value xs) old → old ≡ with_first (entry_value x) new
    → ys ≡ xs ++ x ∷ [] → ReadBefore bytes (map entry_value ys) new
read_more bytes xs ys x old new so_far first pushed nodes =
    let same : with_front (map entry_value ys) new ≡ with_front (map entry_value xs) old =
    ap (λ (zs : List (Option Node)). with_front (map entry_value zs) new) pushed ∙ ap (λ (zs : List (Option NodeValue)). with_front zs new) (map_push entry_value xs x)
    ∙ sym (first_of (entry_value x) (map entry_value xs) new) ∙ ap (with_front (map entry_value xs)) (sym first) in
    (λ e. (so_far nodes).0 (sym same ∙ e), λ e. same ∙ (so_far nodes).1 e)
  where
    first_of : (x : Option NodeValue) (xs : List (Option NodeValue)) (o : Option (List (Option NodeValue))) → with_front xs (with_first x o) ≡ with_front (xs ++ x ∷ []) o
    first_of x xs None = refl
    first_of x xs (Some ys) = ap (λ (zs : List (Option NodeValue)). Some zs) (sym (append_assoc xs (x ∷ []) ys))
