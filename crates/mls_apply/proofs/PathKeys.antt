-- The keys of a path as a set, and the keys of a tree's nodes.
use Rattle.std.proofs.Common.{◌≡◌, ◌↔◌, ℕ, zero, suc, ◌+◌, ◌-◌, ◌<◌, ◌≤◌, Bool, true, false, not, ◌||◌, ◌&&◌, cond, List, [], ◌∷◌, ◌++◌, map, take, drop, length, get_or, Option, Some, None, IsTrue, Bor, Ordering, refl, sym, ap, ◌∙◌, subst, inl, inr, append_assoc, arith}
use Rattle.std.specs.Prelude.{option_map, slice_get, unwrap_or}
use Rattle.std.specs.List.{list_any}
use Rattle.std.specs.Str.{bytes_eq}
use Rattle.std.specs.Ordering.{nat_cmp}
use Rattle.std.specs.Cmp.Lexicographic.{slice_cmp}
use Rattle.std.specs.BTreeMap.{is_at}
use Rattle.std.specs.BTreeSet.{BTreeSet, contains, IsEmpty}
use Rattle.std.proofs.lemmas.Bool.{cases_Bool, false≢true}
use Rattle.std.proofs.lemmas.List.{drop_more, drop_all, take-append-drop, map-append}
use Rattle.std.proofs.lemmas.Map.Text.{is_eq-slice_cmp}
use Rattle.std.proofs.lemmas.Option.{none-some, same_Some}
use Rattle.std.proofs.lemmas.Slice.Eq.{bytes_eq-Decides}
use Rattle.mls_nodes.specs.declared.leaf.LeafNode.{LeafNode}
use Rattle.mls_nodes.specs.declared.parent.ParentNode.{ParentNode}
use Rattle.mls_nodes.specs.NodeModel.{NodeValue}
use Rattle.mls_msgs.specs.declared.commit.PathNode.{PathNode}
use Rattle.mls_msgs.specs.declared.commit.UpdatePath.{UpdatePath}
use Rattle.mls_tree.specs.Tree.{Tree, leaf, branch, leaf_entry, parent_entry, listing}
use Rattle.mls_tree.proofs.Positions.{node_at-listing}
use Rattle.mls_index.specs.NodeKeys.{HasKey}
use Rattle.mls_index.specs.declared.node_key.KeyKind.TheVariants.{Encryption}
use Rattle.mls_check.specs.DistinctKeys.{are_distinct, encryption_key, has_key, leaf_keys, parent_keys, tree_keys}
use Rattle.mls_apply.specs.PathRules.{has_new_keys, path_keys}

-- ---- sets of keys

-- the order of keys
abbrev pub by_bytes : Bor (List ℕ) → Bor (List ℕ) → Ordering
by_bytes a b = slice_cmp nat_cmp a.now b.now

-- a set of keys has this one
abbrev pub holds_key : BTreeSet (Bor (List ℕ)) → List ℕ → Bool
holds_key keys key = contains by_bytes keys (record { ref_ptr = (0, 0); now = key })

-- the set has these keys, none of which stands twice
pub record HoldsKeys (keys : List (List ℕ)) (s : BTreeSet (Bor (List ℕ))) : Type 0 where
  pub distinct : are_distinct keys ≡ true
  pub holds : (key : List ℕ) → holds_key s key ≡ has_key keys key

pub held-none : (s : BTreeSet (Bor (List ℕ))) → IsEmpty s → HoldsKeys [] s
unfolding are_distinct
held-none s empty = record { distinct = refl; holds = λ key. ap (λ (ks : List (Bor (List ℕ))). list_any (is_at (by_bytes (record { ref_ptr = (0, 0); now = key }))) ks) empty }

or_true : (b : Bool) → (b || true) ≡ true
or_true true = refl
or_true false = refl

or_cond : (a b : Bool) → cond a true b ≡ (a || b)
or_cond true b = refl
or_cond false b = refl

module _ (keys : List (List ℕ)) (s : BTreeSet (Bor (List ℕ))) (k : Bor (List ℕ)) (held : HoldsKeys keys s) where
  -- a key that the set has stands twice
  pub held-twice : contains by_bytes s k ≡ true → are_distinct (k.now ∷ keys) ≡ false
  unfolding are_distinct
  held-twice there =
      let e : has_key keys k.now ≡ true = sym (held.holds k.now) ∙ there in
      rw e refl

  -- a key that is new goes into it
  pub held-more : (n : BTreeSet (Bor (List ℕ))) → contains by_bytes s k ≡ false → ((q : Bor (List ℕ)) → contains by_bytes n q ≡ cond (is_at (by_bytes k) q) true (contains by_bytes s q))
      → HoldsKeys (k.now ∷ keys) n
  unfolding are_distinct
  held-more n absent added = record {
    distinct = let e : has_key keys k.now ≡ false = sym (held.holds k.now) ∙ absent in rw (e, held.distinct) refl;
    holds = λ key.
        added (record { ref_ptr = (0, 0); now = key })
        ∙ or_cond (is_at (by_bytes k) (record { ref_ptr = (0, 0); now = key })) (holds_key s key)
        ∙ (λ i. is_eq-slice_cmp k.now key i || held.holds key i);
  }

-- a key that stands twice in a part stands twice in the whole
pub distinct-part : (front back : List (List ℕ)) → are_distinct back ≡ false → are_distinct (front ++ back) ≡ false
unfolding are_distinct
distinct-part [] back e = e
distinct-part (k ∷ ks) back e = go (not (has_key (ks ++ back) k)) (distinct-part ks back e)
  where
    go : (b : Bool) → are_distinct (ks ++ back) ≡ false → (b && are_distinct (ks ++ back)) ≡ false
    go true h = h
    go false h = refl

-- the keys of a path's nodes, from the last one to the first
abbrev pub keys_of : List PathNode → List (List ℕ)
keys_of nodes = map (λ n. n.encryption_key) nodes

-- none of them yet
pub held-start : (nodes : List PathNode) (s : BTreeSet (Bor (List ℕ))) → IsEmpty s → HoldsKeys (keys_of (drop (length nodes) nodes)) s
held-start nodes s empty = subst (λ ns. HoldsKeys (keys_of ns) s) (sym (drop_all (length nodes) nodes (omega arith))) (held-none s empty)

-- the node before
module _ (nodes : List PathNode) (i : ℕ) (node : PathNode) (k : Bor (List ℕ)) (s : BTreeSet (Bor (List ℕ))) (held : HoldsKeys (keys_of (drop i nodes)) s)
    (some : 0 < i) (inside : i ≤ length nodes) (here : node ≡ get_or nodes (i - 1) node) (is : k.now ≡ node.encryption_key) where
  one_before : keys_of (drop (i - 1) nodes) ≡ k.now ∷ keys_of (drop i nodes)
  one_before =
      let next : i - 1 + 1 ≡ i = omega arith in
      ap keys_of (drop_more nodes (i - 1) node (omega arith))
      ∙ (λ j. (sym here j).encryption_key ∷ keys_of (drop (next j) nodes))
      ∙ ap (λ (key : List ℕ). key ∷ keys_of (drop i nodes)) (sym is)

  pub held-before : (n : BTreeSet (Bor (List ℕ))) → contains by_bytes s k ≡ false → ((q : Bor (List ℕ)) → contains by_bytes n q ≡ cond (is_at (by_bytes k) q) true (contains by_bytes s q))
      → HoldsKeys (keys_of (drop (i - 1) nodes)) n
  held-before n absent added = subst (λ ks. HoldsKeys ks n) (sym one_before) (held-more (keys_of (drop i nodes)) s k held n absent added)

  pub twice-before : (path : UpdatePath) → nodes ≡ path.nodes → contains by_bytes s k ≡ true → are_distinct (path_keys path) ≡ false
  twice-before path e there =
      ap are_distinct (
      ap (λ ns. path.leaf_node.encryption_key ∷ keys_of ns) (sym e ∙ sym (take-append-drop (i - 1) nodes))
      ∙ ap (λ ks. path.leaf_node.encryption_key ∷ ks) (map-append (λ n. n.encryption_key) (take (i - 1) nodes) (drop (i - 1) nodes)))
      ∙ distinct-part (path.leaf_node.encryption_key ∷ keys_of (take (i - 1) nodes)) (keys_of (drop (i - 1) nodes)) (ap are_distinct one_before ∙ held-twice (keys_of (drop i nodes)) s k held there)

-- the leaf's key, the last one
module _ (path : UpdatePath) (nodes : List PathNode) (i : ℕ) (k : Bor (List ℕ)) (s : BTreeSet (Bor (List ℕ))) (held : HoldsKeys (keys_of (drop i nodes)) s)
    (e : nodes ≡ path.nodes) (first : i ≡ 0) (is : k.now ≡ path.leaf_node.encryption_key) where
  all_keys : k.now ∷ keys_of (drop i nodes) ≡ path_keys path
  all_keys = (λ j. is j ∷ keys_of (drop (first j) (e j)))

  pub held-all : (n : BTreeSet (Bor (List ℕ))) → contains by_bytes s k ≡ false → ((q : Bor (List ℕ)) → contains by_bytes n q ≡ cond (is_at (by_bytes k) q) true (contains by_bytes s q))
      → HoldsKeys (path_keys path) n
  held-all n absent added = subst (λ ks. HoldsKeys ks n) all_keys (held-more (keys_of (drop i nodes)) s k held n absent added)

  pub twice-all : contains by_bytes s k ≡ true → are_distinct (path_keys path) ≡ false
  twice-all there = ap are_distinct (sym all_keys) ∙ held-twice (keys_of (drop i nodes)) s k held there

-- ---- the keys of a tree

-- the keys of the nodes of a listing
abbrev pub entry_keys : Option NodeValue → List (List ℕ)
entry_keys None = []
entry_keys (Some n) = encryption_key n ∷ []

abbrev pub keys_in : List (Option NodeValue) → List (List ℕ)
keys_in [] = []
keys_in (e ∷ es) = entry_keys e ++ keys_in es

keys_in-append : (a b : List (Option NodeValue)) → keys_in (a ++ b) ≡ keys_in a ++ keys_in b
keys_in-append [] b = refl
keys_in-append (e ∷ es) b = ap (λ ks. entry_keys e ++ ks) (keys_in-append es b) ∙ sym (append_assoc (entry_keys e) (keys_in es) (keys_in b))

leaf_keys-entry : (x : Option LeafNode) → leaf_keys x ≡ entry_keys (leaf_entry x)
leaf_keys-entry None = refl
leaf_keys-entry (Some x) = refl

parent_keys-entry : (p : Option ParentNode) → parent_keys p ≡ entry_keys (parent_entry p)
parent_keys-entry None = refl
parent_keys-entry (Some p) = refl

pub tree_keys-listing : (t : Tree) → tree_keys t ≡ keys_in (listing t)
tree_keys-listing (leaf None) = refl
tree_keys-listing (leaf (Some x)) = refl
tree_keys-listing (branch l p r) =
    (λ i. tree_keys-listing l i ++ (parent_keys-entry p i ++ tree_keys-listing r i))
    ∙ sym (keys_in-append (listing l) (parent_entry p ∷ listing r))

-- ---- a key that stands in a tree

module _ (key : List ℕ) where
  -- where a listing has it
  node_index_in : (xs : List (Option NodeValue)) → has_key (keys_in xs) key ≡ true → (p : ℕ) × (option_map encryption_key (unwrap_or (slice_get xs p) None) ≡ Some key)
  node_index_in [] e = absurd (false≢true e)
  node_index_in (None ∷ xs) e = let h = node_index_in xs e in (suc h.0, h.1)
  node_index_in (Some n ∷ xs) e =
      elim (cases_Bool (bytes_eq (encryption_key n) key)) [
        | inl equal ↦ (zero, ap Some ((bytes_eq-Decides (encryption_key n) key).0 equal))
        | inr differs ↦ (let h = node_index_in xs (ap (λ (b : Bool). b || has_key (keys_in xs) key) (sym differs) ∙ e) in (suc h.0, h.1))
      ]

  listed : (xs : List (Option NodeValue)) (p : ℕ) → option_map encryption_key (unwrap_or (slice_get xs p) None) ≡ Some key → has_key (keys_in xs) key ≡ true
  listed [] p e = absurd (none-some key e)
  listed (None ∷ xs) zero e = absurd (none-some key e)
  listed (None ∷ xs) (suc p) e = listed xs p e
  listed (Some n ∷ xs) zero e =
      ap (λ (b : Bool). b || has_key (keys_in xs) key) ((bytes_eq-Decides (encryption_key n) key).1 (same_Some (encryption_key n) key e))
  listed (Some n ∷ xs) (suc p) e =
      ap (λ (b : Bool). bytes_eq (encryption_key n) key || b) (listed xs p e) ∙ or_true (bytes_eq (encryption_key n) key)

  module _ (t : Tree) where
    has_node_index : has_key (tree_keys t) key ≡ true → HasKey Encryption t key
    has_node_index e =
        let h = node_index_in (listing t) (ap (λ keys. has_key keys key) (sym (tree_keys-listing t)) ∙ e) in
        (h.0, ap (option_map encryption_key) (node_at-listing t h.0) ∙ h.1)

    of_node_index : HasKey Encryption t key → has_key (tree_keys t) key ≡ true
    of_node_index h =
        ap (λ keys. has_key keys key) (tree_keys-listing t)
        ∙ listed (listing t) h.0 (ap (option_map encryption_key) (sym (node_at-listing t h.0)) ∙ h.1)

    -- whether some node has it
    pub stands : (b : Bool) → IsTrue b ↔ HasKey Encryption t key → b ≡ has_key (tree_keys t) key
    stands true h = sym (of_node_index (h.0 refl))
    stands false h =
        elim (cases_Bool (has_key (tree_keys t) key)) [
          | inl e ↦ h.1 (has_node_index e) ∙ sym e
          | inr e ↦ sym e
        ]

-- ---- whether the keys of a path are new

pub new_keys : (path : UpdatePath) (t : Tree) (b : Bool) → b ≡ list_any (has_key (tree_keys t)) (path_keys path) → true ≡ are_distinct (path_keys path) → not b ≡ has_new_keys path t
unfolding has_new_keys
new_keys path t b used distinct = (λ i. distinct i && not (used i))

pub no_new_keys : (path : UpdatePath) (t : Tree) → false ≡ are_distinct (path_keys path) → false ≡ has_new_keys path t
unfolding has_new_keys
no_new_keys path t twice = ap (λ b. b && not (list_any (has_key (tree_keys t)) (path_keys path))) twice
