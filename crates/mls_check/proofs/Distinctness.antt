-- The encryption keys of a tree, by their places and as a list.
use Rattle.std.proofs.Common.{◌≡◌, ◌≢◌, ◌↔◌, ℕ, zero, suc, ◌+◌, ◌*◌, ◌-◌, Bool, true, false, List, [], ◌∷◌, ◌++◌, length, Option, Some, None, inl, inr, refl, sym, ap, ◌∙◌, arith}
use Rattle.std.specs.Prelude.{not, ◌&&◌, ◌||◌, option_map, slice_get, is_some}
use Rattle.std.specs.Str.{bytes_eq}
use Rattle.std.proofs.lemmas.Bool.{cases_Bool, cases_order, and_parts, false≢true}
use Rattle.std.proofs.lemmas.Option.{same_Some, none-some}
use Rattle.std.proofs.lemmas.Slice.Eq.{bytes_eq-Decides}
use Rattle.mls_nodes.specs.declared.parent.ParentNode.{ParentNode}
use Rattle.mls_nodes.specs.NodeModel.{NodeValue}
use Rattle.mls_tree.specs.Tree.{Tree, leaf, branch, leaf_count, listing, parent_entry, Subtree, subtree_at, entry_of}
use Rattle.mls_tree.proofs.Choices.{here, before, after, same, other}
use Rattle.mls_tree.proofs.Trees.{length-listing}
use Rattle.mls_tree.proofs.Growing.{slice_get-append_left}
use Rattle.mls_tree.proofs.Listings.{slice_get-append_right}
use Rattle.mls_check.specs.FirstFailureInternal.{IsFirstFailureIn}
use Rattle.mls_check.specs.DistinctKeys.{encryption_key, encryption_key_at, HasUniqueKeyAt, IsDistinct, parent_keys, tree_keys, has_key, are_distinct, has_distinct_keys}

-- ---- the node at a place is the entry of the listing there

-- the node of an entry, where there is one
abbrev node_in : Option (Option NodeValue) → Option NodeValue
node_in None = None
node_in (Some e) = e

node_at-from : (first : ℕ) (t : Tree) (p : ℕ) → entry_of (subtree_at first t (2 * first + p)) ≡ node_in (slice_get (listing t) p)
node_at-from first (leaf x) zero = ap entry_of (same (2 * first + 0) (2 * first) (Some (record { first = first; tree = leaf x })) None (omega arith))
node_at-from first (leaf x) (suc p) = ap entry_of (other (2 * first + suc p) (2 * first) (Some (record { first = first; tree = leaf x })) None (λ e. omega arith))
node_at-from first (branch l n r) p =
    let count = length-listing l in
    let at = 2 * first + p + 1 in
    let middle = 2 * (first + leaf_count l) in
    let whole : Option Subtree = Some (record { first = first; tree = branch l n r }) in
    let left = subtree_at first l (2 * first + p) in
    let right = subtree_at (first + leaf_count l) r (2 * first + p) in
    let rest = parent_entry n ∷ listing r in
    elim (cases_order at middle) [
      | inl e ↦
          (let k : length (listing l) + 0 ≡ p = omega arith in
          ap entry_of (here at middle whole left right e)
          ∙ sym (ap node_in (ap (slice_get (listing l ++ rest)) (sym k) ∙ slice_get-append_right (listing l) rest 0)))
      | inr (inl lt) ↦
          ap entry_of (before at middle whole left right lt) ∙ node_at-from first l p ∙ sym (ap node_in (slice_get-append_left (listing l) rest p (omega arith)))
      | inr (inr gt) ↦
          (let q = p - 2 * leaf_count l in
          let k : length (listing l) + suc q ≡ p = omega arith in
          let shift : 2 * first + p ≡ 2 * (first + leaf_count l) + q = omega arith in
          ap entry_of (after at middle whole left right gt ∙ ap (subtree_at (first + leaf_count l) r) shift)
          ∙ node_at-from (first + leaf_count l) r q
          ∙ sym (ap node_in (ap (slice_get (listing l ++ rest)) (sym k) ∙ slice_get-append_right (listing l) rest (suc q))))
    ]

-- ---- the keys of a list of nodes

keys_among : List (Option NodeValue) → List (List ℕ)
keys_among [] = []
keys_among (None ∷ xs) = keys_among xs
keys_among (Some n ∷ xs) = encryption_key n ∷ keys_among xs

-- the key at a place of the list
abbrev key_in : List (Option NodeValue) → ℕ → Option (List ℕ)
key_in xs p = option_map encryption_key (node_in (slice_get xs p))

encryption_key_at-listing : (t : Tree) (p : ℕ) → encryption_key_at t p ≡ key_in (listing t) p
encryption_key_at-listing t p =
    let e : p ≡ 2 * 0 + p = omega arith in ap (option_map encryption_key) (ap (λ k. entry_of (subtree_at 0 t k)) e ∙ node_at-from 0 t p)

keys_among-append : (xs ys : List (Option NodeValue)) → keys_among (xs ++ ys) ≡ keys_among xs ++ keys_among ys
unfolding keys_among
keys_among-append [] ys = refl
keys_among-append (None ∷ xs) ys = keys_among-append xs ys
keys_among-append (Some n ∷ xs) ys = ap (λ ks. encryption_key n ∷ ks) (keys_among-append xs ys)

parent_first : (p : Option ParentNode) (ks : List (List ℕ)) (xs : List (Option NodeValue)) → ks ≡ keys_among xs → parent_keys p ++ ks ≡ keys_among (parent_entry p ∷ xs)
unfolding keys_among
parent_first None ks xs e = e
parent_first (Some p) ks xs e = ap (λ v. p.encryption_key ∷ v) e

tree_keys-listing : (t : Tree) → tree_keys t ≡ keys_among (listing t)
unfolding keys_among
tree_keys-listing (leaf None) = refl
tree_keys-listing (leaf (Some x)) = refl
tree_keys-listing (branch l n r) =
    let a = tree_keys-listing l in
    let b = parent_first n (tree_keys r) (listing r) (tree_keys-listing r) in
    (λ i. a i ++ b i) ∙ sym (keys_among-append (listing l) (parent_entry n ∷ listing r))

has_key-node_index : (xs : List (Option NodeValue)) (k : List ℕ) → has_key (keys_among xs) k ≡ true → (p : ℕ) × (key_in xs p ≡ Some k)
unfolding keys_among
has_key-node_index [] k e = absurd (false≢true e)
has_key-node_index (None ∷ xs) k e = let h = has_key-node_index xs k e in (suc h.0, h.1)
has_key-node_index (Some n ∷ xs) k e =
    elim (cases_Bool (bytes_eq (encryption_key n) k)) [
      | inl equal ↦ (zero, ap Some ((bytes_eq-Decides (encryption_key n) k).0 equal))
      | inr differs ↦ (let h = has_key-node_index xs k (ap (λ (b : Bool). b || has_key (keys_among xs) k) (sym differs) ∙ e) in (suc h.0, h.1))
    ]

or_true : (b : Bool) → (b || true) ≡ true
or_true true = refl
or_true false = refl

node_index-has_key : (xs : List (Option NodeValue)) (p : ℕ) (k : List ℕ) → key_in xs p ≡ Some k → has_key (keys_among xs) k ≡ true
unfolding keys_among
node_index-has_key [] p k e = absurd (none-some k e)
node_index-has_key (None ∷ xs) zero k e = absurd (none-some k e)
node_index-has_key (None ∷ xs) (suc p) k e = node_index-has_key xs p k e
node_index-has_key (Some n ∷ xs) zero k e =
    ap (λ (b : Bool). b || has_key (keys_among xs) k) ((bytes_eq-Decides (encryption_key n) k).1 (same_Some (encryption_key n) k e))
node_index-has_key (Some n ∷ xs) (suc p) k e =
    ap (λ (b : Bool). bytes_eq (encryption_key n) k || b) (node_index-has_key xs p k e) ∙ or_true (bytes_eq (encryption_key n) k)

-- no two places of the list have one key
abbrev AreApart : List (Option NodeValue) → Type 0
AreApart xs = (p q : ℕ) (k : List ℕ) → q ≢ p → key_in xs p ≡ Some k → key_in xs q ≡ Some k → ⊥

not_true : (b : Bool) → not b ≡ true → b ≡ true → ⊥
not_true true e f = false≢true e
not_true false e f = false≢true f

apart : (xs : List (Option NodeValue)) → are_distinct (keys_among xs) ≡ true → AreApart xs
unfolding keys_among are_distinct
apart [] e p q k n a b = none-some k a
apart (None ∷ xs) e zero q k n a b = none-some k a
apart (None ∷ xs) e (suc p) zero k n a b = none-some k b
apart (None ∷ xs) e (suc p) (suc q) k n a b = apart xs e p q k (λ s. n (ap (λ v. suc v) s)) a b
apart (Some x ∷ xs) e zero zero k n a b = n refl
apart (Some x ∷ xs) e zero (suc q) k n a b =
    let parts = and_parts (not (has_key (keys_among xs) (encryption_key x))) (are_distinct (keys_among xs)) e in
    not_true _ parts.0 (node_index-has_key xs q (encryption_key x) (b ∙ sym a))
apart (Some x ∷ xs) e (suc p) zero k n a b =
    let parts = and_parts (not (has_key (keys_among xs) (encryption_key x))) (are_distinct (keys_among xs)) e in
    not_true _ parts.0 (node_index-has_key xs p (encryption_key x) (a ∙ sym b))
apart (Some x ∷ xs) e (suc p) (suc q) k n a b =
    let parts = and_parts (not (has_key (keys_among xs) (encryption_key x))) (are_distinct (keys_among xs)) e in
    apart xs parts.1 p q k (λ s. n (ap (λ v. suc v) s)) a b

behind : (x : Option NodeValue) (xs : List (Option NodeValue)) → AreApart (x ∷ xs) → AreApart xs
behind x xs h p q k n a b = h (suc p) (suc q) k (λ e. n (omega arith)) a b

distinct : (xs : List (Option NodeValue)) → AreApart xs → are_distinct (keys_among xs) ≡ true
unfolding keys_among are_distinct
distinct [] h = refl
distinct (None ∷ xs) h = distinct xs (behind None xs h)
distinct (Some x ∷ xs) h =
    let rest = distinct xs (behind (Some x) xs h) in
    elim (cases_Bool (has_key (keys_among xs) (encryption_key x))) [
      | inl again ↦ (let node_index = has_key-node_index xs (encryption_key x) again in absurd (h zero (suc node_index.0) (encryption_key x) (λ e. omega arith) refl node_index.1))
      | inr new ↦ (λ i. not (new i) && rest i)
    ]

-- ---- of a tree

pub distinct-by_keys : (t : Tree) → (has_distinct_keys t ≡ true) ↔ IsDistinct t
unfolding has_distinct_keys
distinct-by_keys t = (
  λ e p q n h.
      apart (listing t) (ap are_distinct (sym (tree_keys-listing t)) ∙ e) p q h.key n (sym (encryption_key_at-listing t p) ∙ h.here) (sym (encryption_key_at-listing t q) ∙ h.there),
  λ h.
      ap are_distinct (tree_keys-listing t)
      ∙ distinct (listing t) (λ p q k n a b. h p q n (record { key = k; here = encryption_key_at-listing t p ∙ a; there = encryption_key_at-listing t q ∙ b })),
)

-- whether a search for the first place whose key another one has finds none
pub distinct-none_repeated : (t : Tree) (o : Option ℕ) → IsFirstFailureIn (HasUniqueKeyAt t) o → (b : Bool) → is_some o ≡ not b → b ≡ has_distinct_keys t
distinct-none_repeated t None h true e = sym ((distinct-by_keys t).1 h)
distinct-none_repeated t None h false e = absurd (false≢true e)
distinct-none_repeated t (Some p) h true e = absurd (false≢true (sym e))
distinct-none_repeated t (Some p) h false e =
    elim (cases_Bool (has_distinct_keys t)) [
      | inl once ↦ absurd (h.fails ((distinct-by_keys t).0 once p))
      | inr twice ↦ sym twice
    ]
