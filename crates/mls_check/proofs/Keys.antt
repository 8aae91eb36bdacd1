-- The signature keys of the leaves, collected from the last one to the first.
use Rattle.std.proofs.Common.{◌≡◌, ◌≢◌, ℕ, ◌+◌, ◌<◌, ◌≤◌, Bool, true, false, not, ◌||◌, cond, option_map, List, [], Option, Some, None, Ordering, eqb, Bor, refl, sym, ap, ◌∙◌, arith, inl, inr}
use Rattle.std.specs.Str.{bytes_eq}
use Rattle.std.specs.Ordering.{nat_cmp}
use Rattle.std.specs.Cmp.Lexicographic.{slice_cmp}
use Rattle.std.specs.BTreeMap.{is_at}
use Rattle.std.specs.BTreeSet.{BTreeSet, contains}
use Rattle.std.proofs.lemmas.Bool.{cases_lt, cases_Bool, cases_order}
use Rattle.std.proofs.lemmas.Bool.Decides.{nat_tests}
use Rattle.std.proofs.lemmas.Map.Text.{is_eq-slice_cmp}
use Rattle.std.proofs.lemmas.Slice.Eq.{bytes_eq-Decides}
use Rattle.mls_nodes.specs.declared.leaf.LeafNode.{LeafNode}
use Rattle.mls_tree.specs.Tree.{Tree, leaf_count, leaf_at}
use Rattle.mls_check.specs.LeafValidation.{all_leaves, has_unique_signature_key, FindsFailing}
use Rattle.mls_check.proofs.Leaves.{all_leaves-below, all_leaves-at, leaf_at-low}
use Rattle.mls_check.proofs.Differing.{AreApart}

-- ---- the set of keys

-- the order of the keys
abbrev pub key_cmp : Bor (List ℕ) → Bor (List ℕ) → Ordering
key_cmp x y = slice_cmp nat_cmp x.now y.now

-- a key of these bytes
abbrev as_key : List ℕ → Bor (List ℕ)
as_key bytes = record { ref_ptr = (0, 0); now = bytes }

-- whether the set has a key of these bytes
abbrev pub has_key : BTreeSet (Bor (List ℕ)) → List ℕ → Bool
has_key s bytes = contains key_cmp s (as_key bytes)

has_key-added : (s n : BTreeSet (Bor (List ℕ))) (k : Bor (List ℕ)) → ((q : Bor (List ℕ)) → contains key_cmp n q ≡ cond (is_at (key_cmp k) q) true (contains key_cmp s q))
    → (bytes : List ℕ) → has_key n bytes ≡ cond (bytes_eq k.now bytes) true (has_key s bytes)
has_key-added s n k h bytes = h (as_key bytes) ∙ ap (λ (b : Bool). cond b true (has_key s bytes)) (is_eq-slice_cmp k.now bytes)

pub not_false : (b : Bool) → not b ≡ false → b ≡ true
not_false true e = refl
not_false false e = sym e

pub not_true : (b : Bool) → not b ≡ true → b ≡ false
not_true true e = sym e
not_true false e = refl

-- ---- what is known of the leaves from i on

-- a leaf from i on has this signature key
abbrev pub HasLeafKey : Tree → ℕ → List ℕ → Type 0
HasLeafKey t i key = (j : ℕ) × (x : LeafNode) × (i ≤ j) × (leaf_at 0 t j ≡ Some x) × (x.signature_key ≡ key)

-- no leaf from i on and below `high` has the signature key of a later leaf
pub record SinglesFrom (t : Tree) (i high : ℕ) : Type 0 where
  pub at : (j : ℕ) (x : LeafNode) → i ≤ j → j < high → leaf_at 0 t j ≡ Some x → (m : ℕ) (y : LeafNode) → j < m → leaf_at 0 t m ≡ Some y → y.signature_key ≢ x.signature_key

-- leaf r has the signature key of a later leaf
pub record RepeatsLater (t : Tree) (r : ℕ) : Type 0 where
  pub node : LeafNode
  pub set : leaf_at 0 t r ≡ Some node
  pub later : HasLeafKey t (r + 1) node.signature_key

-- the smallest leaf from i on that has the signature key of a later leaf, if there is one
abbrev pub IsFirstRepeated : Tree → ℕ → Option ℕ → Type 0
IsFirstRepeated t i None = SinglesFrom t i (leaf_count t)
IsFirstRepeated t i (Some r) = (i ≤ r) × RepeatsLater t r × SinglesFrom t i r

-- the set has the keys of the leaves from i on
pub record KeysFrom (t : Tree) (i : ℕ) (s : BTreeSet (Bor (List ℕ))) (repeated : Option ℕ) : Type 0 where
  pub listed : (j : ℕ) (x : LeafNode) → i ≤ j → leaf_at 0 t j ≡ Some x → has_key s x.signature_key ≡ true
  pub source : (key : List ℕ) → has_key s key ≡ true → HasLeafKey t i key
  pub found : IsFirstRepeated t i repeated

past_end : (t : Tree) (i j : ℕ) (x : LeafNode) → leaf_count t ≤ i → i ≤ j → leaf_at 0 t j ≡ Some x → ⊥
past_end t i j x end from set = let low = leaf_at-low 0 t j x set in omega arith

pub KeysFrom-none : (t : Tree) (i : ℕ) (s : BTreeSet (Bor (List ℕ))) → leaf_count t ≤ i → s.keys ≡ [] → KeysFrom t i s None
KeysFrom-none t i s end empty = record {
  listed = λ j x from set. absurd (past_end t i j x end from set);
  source = λ key has. let e : false ≡ true = rw empty at has in absurd cc;
  found = record { at = λ j x from low set m y after there. absurd (past_end t i j x end from set) };
}

-- a blank leaf
singles_blank : (t : Tree) (i high : ℕ) → SinglesFrom t (i + 1) high → leaf_at 0 t i ≡ None → SinglesFrom t i high
singles_blank t i high h blank = record {
  at = λ j x from low set.
      elim (cases_lt i j) [
        | inl after ↦ h.at j x (omega arith) low set
        | inr here ↦ let same : j ≡ i = omega arith in let f : ◌≡◌ {A = Option LeafNode} None (Some x) = sym blank ∙ (rw same at set) in absurd cc
      ];
}

found_blank : (t : Tree) (i : ℕ) (repeated : Option ℕ) → IsFirstRepeated t (i + 1) repeated → leaf_at 0 t i ≡ None → IsFirstRepeated t i repeated
found_blank t i None h blank = singles_blank t i (leaf_count t) h blank
found_blank t i (Some r) h blank = (omega arith, h.1, singles_blank t i r h.2 blank)

pub KeysFrom-blank : (t : Tree) (i : ℕ) (s : BTreeSet (Bor (List ℕ))) (repeated : Option ℕ) → KeysFrom t (i + 1) s repeated → leaf_at 0 t i ≡ None → KeysFrom t i s repeated
KeysFrom-blank t i s repeated h blank = record {
  listed = λ j x from set.
      elim (cases_lt i j) [
        | inl after ↦ h.listed j x (omega arith) set
        | inr here ↦ let same : j ≡ i = omega arith in let f : ◌≡◌ {A = Option LeafNode} None (Some x) = sym blank ∙ (rw same at set) in absurd cc
      ];
  source = λ key has. let k = h.source key has in (k.0, k.1, omega (arith, k.2), k.3, k.4);
  found = found_blank t i repeated h.found blank;
}

cond_true : (b : Bool) → cond b true true ≡ true
cond_true true = refl
cond_true false = refl

-- a set leaf
module _ (t : Tree) (i : ℕ) (s n : BTreeSet (Bor (List ℕ))) (x : LeafNode) (k : Bor (List ℕ)) (set : leaf_at 0 t i ≡ Some x) (is : k.now ≡ x.signature_key)
    (added : (q : Bor (List ℕ)) → contains key_cmp n q ≡ cond (is_at (key_cmp k) q) true (contains key_cmp s q)) where
  keys_listed : ((j : ℕ) (y : LeafNode) → i + 1 ≤ j → leaf_at 0 t j ≡ Some y → has_key s y.signature_key ≡ true)
      → (j : ℕ) (y : LeafNode) → i ≤ j → leaf_at 0 t j ≡ Some y → has_key n y.signature_key ≡ true
  keys_listed h j y from there =
      elim (cases_lt i j) [
        | inl after ↦ let old = h j y (omega arith) there in has_key-added s n k added y.signature_key ∙ (rw old (cond_true (bytes_eq k.now y.signature_key)))
        | inr here ↦
            let same : j ≡ i = omega arith in
            let f : ◌≡◌ {A = Option LeafNode} (Some x) (Some y) = sym set ∙ (rw same at there) in
            let g : x ≡ y = cc in
            let e : k.now ≡ y.signature_key = is ∙ ap (λ (z : LeafNode). z.signature_key) g in
            let equal = (bytes_eq-Decides k.now y.signature_key).1 e in
            has_key-added s n k added y.signature_key ∙ rw equal refl
      ]

  keys_source : ((key : List ℕ) → has_key s key ≡ true → HasLeafKey t (i + 1) key) → (key : List ℕ) → has_key n key ≡ true → HasLeafKey t i key
  keys_source h key has =
      elim (cases_Bool (bytes_eq k.now key)) [
        | inl equal ↦ (i, x, omega arith, set, sym is ∙ (bytes_eq-Decides k.now key).0 equal)
        | inr other ↦
            let step = sym (has_key-added s n k added key) ∙ has in
            let old : has_key s key ≡ true = rw other at step in
            let found = h key old in (found.0, found.1, omega (arith, found.2), found.3, found.4)
      ]

  -- its key was new
  singles_new : (high : ℕ) → ((j : ℕ) (y : LeafNode) → i + 1 ≤ j → leaf_at 0 t j ≡ Some y → has_key s y.signature_key ≡ true) → has_key s k.now ≡ false → SinglesFrom t (i + 1) high → SinglesFrom t i high
  singles_new high listed absent h = record {
    at = λ j y from low there m z after later.
        elim (cases_lt i j) [
          | inl beyond ↦ h.at j y (omega arith) low there m z after later
          | inr here ↦
              let same : j ≡ i = omega arith in
              let f : ◌≡◌ {A = Option LeafNode} (Some x) (Some y) = sym set ∙ (rw same at there) in
              let g : x ≡ y = cc in
              λ equal.
              let e : z.signature_key ≡ k.now = equal ∙ (ap (λ (w : LeafNode). w.signature_key) (sym g) ∙ sym is) in
              let there' = listed m z (omega arith) later in
              let h' : has_key s k.now ≡ true = rw e at there' in
              let no : false ≡ true = sym absent ∙ h' in absurd cc
        ];
  }

  found_new : (repeated : Option ℕ) → ((j : ℕ) (y : LeafNode) → i + 1 ≤ j → leaf_at 0 t j ≡ Some y → has_key s y.signature_key ≡ true) → has_key s k.now ≡ false → IsFirstRepeated t (i + 1) repeated → IsFirstRepeated t i repeated
  found_new None listed absent h = singles_new (leaf_count t) listed absent h
  found_new (Some r) listed absent h = (omega arith, h.1, singles_new r listed absent h.2)

  pub KeysFrom-new : (repeated : Option ℕ) → KeysFrom t (i + 1) s repeated → has_key s k.now ≡ false → KeysFrom t i n repeated
  KeysFrom-new repeated h absent = record { listed = keys_listed h.listed; source = keys_source h.source; found = found_new repeated h.listed absent h.found }

  -- its key was there
  pub KeysFrom-repeated : (repeated : Option ℕ) → KeysFrom t (i + 1) s repeated → has_key s k.now ≡ true → KeysFrom t i n (Some i)
  KeysFrom-repeated repeated h there = record {
    listed = keys_listed h.listed;
    source = keys_source h.source;
    found = (
      omega arith,
      record { node = x; set = set; later = h.source x.signature_key (rw is at there) },
      record { at = λ j y from low here. absurd (omega arith) },
    );
  }

-- ---- the answer

or_true : (a : Bool) {b : Bool} → b ≡ true → (a || b) ≡ true
or_true true e = refl
or_true false e = e

differs_not : (xs ys : List ℕ) → xs ≢ ys → not (bytes_eq xs ys) ≡ true
differs_not xs ys other =
    elim (cases_Bool (bytes_eq xs ys)) [
      | inl same ↦ absurd (other ((bytes_eq-Decides xs ys).0 same))
      | inr e ↦ rw e refl
    ]

-- a leaf below `high` has its own key
own_key : (t : Tree) (high : ℕ) → SinglesFrom t 0 high → (j : ℕ) (x : LeafNode) → j < high → leaf_at 0 t j ≡ Some x → has_unique_signature_key t j x ≡ true
unfolding has_unique_signature_key
own_key t high h j x low set =
    all_leaves-below (λ m other. eqb m j || not (bytes_eq other.signature_key x.signature_key)) t (leaf_count t)
    (record {
      at = λ m y below there.
          elim (cases_order m j) [
            | inl same ↦ let e : eqb m j ≡ true = grind (arith, nat_tests) in rw e refl
            | inr (inl before) ↦ or_true (eqb m j) (differs_not y.signature_key x.signature_key (λ e. h.at m y (omega arith) (omega arith) there j x before set (sym e)))
            | inr (inr after) ↦ or_true (eqb m j) (differs_not y.signature_key x.signature_key (h.at j x (omega arith) low set m y after there))
          ];
    })
    (omega arith)

-- a leaf whose key a later one has too hasn't
shared_key : (t : Tree) (r : ℕ) (x : LeafNode) → HasLeafKey t (r + 1) x.signature_key → has_unique_signature_key t r x ≡ false
unfolding has_unique_signature_key
shared_key t r x later =
    elim (cases_Bool (has_unique_signature_key t r x)) [
      | inl own ↦
          let e = all_leaves-at (λ m other. eqb m r || not (bytes_eq other.signature_key x.signature_key)) 0 t own later.0 later.1 later.3 in
          let apart : eqb later.0 r ≡ false = grind (arith, nat_tests, later.2) in
          let equal : bytes_eq later.1.signature_key x.signature_key ≡ true = (bytes_eq-Decides later.1.signature_key x.signature_key).1 later.4 in
          let no : false ≡ true = rw (apart, equal) at e in absurd cc
      | inr shared ↦ shared
    ]

-- no leaf has the signature key of another one
own_keys : (t : Tree) → SinglesFrom t 0 (leaf_count t)
    → all_leaves (has_unique_signature_key t) 0 t ≡ true
own_keys t singles =
    all_leaves-below (has_unique_signature_key t) t (leaf_count t)
    (record { at = λ j x low set. own_key t (leaf_count t) singles j x low set })
    (omega arith)

pub KeysFrom-all : (t : Tree) (s : BTreeSet (Bor (List ℕ))) (repeated : Option ℕ) → KeysFrom t 0 s repeated → FindsFailing (has_unique_signature_key t) t repeated
KeysFrom-all t s None h = own_keys t h.found
KeysFrom-all t s (Some r) h =
    let twin = h.found.1 in
    record {
      node = twin.node;
      set = twin.set;
      fails = shared_key t r twin.node twin.later;
      smaller = λ j x low set. own_key t r h.found.2 j x low set;
    }

-- ---- the keys by the leaves' indices

-- the signature key of leaf i
abbrev pub signature_key_at : Tree → ℕ → Option (List ℕ)
signature_key_at t i = option_map (λ x. x.signature_key) (leaf_at 0 t i)

pub signature_key-set : (t : Tree) (i : ℕ) (x : LeafNode) → leaf_at 0 t i ≡ Some x
    → signature_key_at t i ≡ Some x.signature_key
signature_key-set t i x set = ap (λ o. option_map (λ (y : LeafNode). y.signature_key) o) set

pub signature_key-blank : (t : Tree) (i : ℕ) → leaf_at 0 t i ≡ None → signature_key_at t i ≡ None
signature_key-blank t i blank = ap (λ o. option_map (λ (y : LeafNode). y.signature_key) o) blank

-- keys that are apart at all indices of the tree
pub own_keys-apart : (t : Tree) → AreApart (signature_key_at t) (leaf_count t)
    → all_leaves (has_unique_signature_key t) 0 t ≡ true
own_keys-apart t apart = own_keys t (record {
  at = λ j x from low set m y after there same.
      let last = leaf_at-low 0 t m y there in
      let two = signature_key-set t m y there ∙ ap Some same in
      apart j m x.signature_key after (omega arith) (signature_key-set t j x set) two;
})
