-- The first leaf with a repeated signature key, node index by node index, and that it is the first of the tree.
use Rattle.std.proofs.Common.{◌≡◌, ◌≢◌, ◌∙◌, ◌⊎◌, ℕ, ◌*◌, ◌<◌, ◌≤◌, List, [], ◌∷◌, true, false, Option, Some, None, inl, inr, sym, ap, subst, arith}
use Rattle.std.specs.Prelude.{◌/◌, min}
use Rattle.std.proofs.lemmas.Bool.{cases_Bool, cases_lt, false≢true}
use Rattle.std.proofs.lemmas.Option.{same_Some}
use Rattle.mls_nodes.specs.declared.leaf.LeafNode.{LeafNode}
use Rattle.mls_tree.specs.Tree.{Tree, leaf_at}
use Rattle.mls_tree.specs.ChangedNodes.{AgreeExceptAt}
use Rattle.mls_check.specs.LeafValidation.{all_leaves, has_unique_signature_key}
use Rattle.mls_check.proofs.Leaves.{all_leaves-at}
use Rattle.mls_index.specs.FirstChanged.{smaller}
use Rattle.mls_index.specs.FirstIndex.{IsLeast}
use Rattle.mls_index.specs.IncrementalCheck.{contains_node_index}
use Rattle.mls_index.specs.RepeatedKeys.{ShareKey, IsRepeatedAt, FindsRepeatedAt, ChangedLeavesFindRepeated}
use Rattle.mls_index.specs.RepeatedKeysInternal.{FindsOther}
use Rattle.mls_index.specs.declared.node_key.KeyKind.TheVariants.{Signature}
use Rattle.mls_index.proofs.Changed.{all_leaves-each, same_leaf-at, own_key-apart, own_key-from}
use Rattle.mls_index.proofs.Entries.{listed-here, listed-more}
use Rattle.mls_index.proofs.FirstFailing.{at_one, one_or_rest, listed-one}
use Rattle.mls_index.proofs.FirstIndexes.{smaller_of}
use Rattle.mls_index.proofs.Standing.{leaf-key_at_node, signer}

turned : (t : Tree) (p q : ℕ) → ShareKey Signature t p q → ShareKey Signature t q p
turned t p q s = record { key = s.key; other = λ e. s.other (sym e); here = s.there; there = s.here }

-- ---- one node index, and those after it

module _ (t : Tree) (r : ℕ) (rest : List ℕ) where
  listed_with : (i : ℕ) → IsRepeatedAt (r ∷ rest) t i → IsRepeatedAt (r ∷ []) t i ⊎ IsRepeatedAt rest t i
  listed_with i h = elim h.listed [
    | inl on ↦ elim (one_or_rest r (2 * i) rest on) [
      | inl here ↦ inl (record { other = h.other; shared = h.shared; listed = inl here })
      | inr there ↦ inr (record { other = h.other; shared = h.shared; listed = inl there })
    ]
    | inr on ↦ elim (one_or_rest r (2 * h.other) rest on) [
      | inl here ↦ inl (record { other = h.other; shared = h.shared; listed = inr here })
      | inr there ↦ inr (record { other = h.other; shared = h.shared; listed = inr there })
    ]
  ]

  listed_one : (i : ℕ) → IsRepeatedAt (r ∷ []) t i → IsRepeatedAt (r ∷ rest) t i
  listed_one i h = record {
    other = h.other;
    shared = h.shared;
    listed = elim h.listed [
      | inl on ↦ inl (listed-one r (2 * i) rest on)
      | inr on ↦ inr (listed-one r (2 * h.other) rest on)
    ];
  }

  listed_rest : (i : ℕ) → IsRepeatedAt rest t i → IsRepeatedAt (r ∷ rest) t i
  listed_rest i h = record {
    other = h.other;
    shared = h.shared;
    listed = elim h.listed [
      | inl on ↦ inl (listed-more r (2 * i) rest on)
      | inr on ↦ inr (listed-more r (2 * h.other) rest on)
    ];
  }

  -- the smaller one of both
  pub repeated-more : (o p : Option ℕ) → FindsRepeatedAt (r ∷ []) t o → FindsRepeatedAt rest t p → FindsRepeatedAt (r ∷ rest) t (smaller o p)
  repeated-more = smaller_of (IsRepeatedAt (r ∷ []) t) (IsRepeatedAt rest t) (IsRepeatedAt (r ∷ rest) t) listed_with listed_one listed_rest

-- no node index, no leaf
pub repeated-nothing : (t : Tree) → FindsRepeatedAt [] t None
repeated-nothing t i h = elim h.listed [
  | inl on ↦ false≢true on
  | inr on ↦ false≢true on
]

-- ---- what stands at one node index

module _ (t : Tree) (p : ℕ) where
  -- one of two leaves with one key is there
  one_there : (i : ℕ) (h : IsRepeatedAt (p ∷ []) t i) → (p ≡ 2 * i) ⊎ ((p ≡ 2 * h.other) × ShareKey Signature t p (2 * i))
  one_there i h = elim h.listed [
    | inl on ↦ inl (at_one p i on)
    | inr on ↦
        (let at = at_one p h.other on in
        inr (at, subst (λ q. ShareKey Signature t q (2 * i)) (sym at) (turned t (2 * i) (2 * h.other) h.shared)))
  ]

  pub repeated-none : FindsOther Signature t p None → FindsRepeatedAt (p ∷ []) t None
  repeated-none none i h = elim (one_there i h) [
    | inl at ↦ none (2 * h.other) (subst (λ q. ShareKey Signature t q (2 * h.other)) (sym at) h.shared)
    | inr (at, shared) ↦ none (2 * i) shared
  ]

  module _ (q : ℕ) (f : IsLeast (ShareKey Signature t p) q) where
    none_smaller : (m : ℕ) → 2 * m ≤ p → 2 * m ≤ q → (j : ℕ) → j < m → IsRepeatedAt (p ∷ []) t j → ⊥
    none_smaller m low-p low-q j low h = elim (one_there j h) [
      | inl at ↦ absurd (omega (arith, at, low, low-p))
      | inr (at, shared) ↦ f.smaller (2 * j) (omega (arith, low, low-q)) shared
    ]

    -- both are leaves
    between : (a b : ℕ) → p ≡ 2 * a → q ≡ 2 * b → FindsRepeatedAt (p ∷ []) t (Some (min p q / 2))
    between a b pa qb =
        let on = listed-here p [] in
        elim (cases_lt q p) [
          | inl less ↦
              (let m : min p q / 2 ≡ b = omega (arith, less, qb) in
              subst (λ n. FindsRepeatedAt (p ∷ []) t (Some n)) (sym m) (record {
                holds = record {
                  other = a;
                  shared = subst (λ n. ShareKey Signature t n (2 * a)) qb (subst (λ n. ShareKey Signature t q n) pa (turned t p q f.holds));
                  listed = inr (subst (λ n. contains_node_index (p ∷ []) n ≡ true) pa on);
                };
                smaller = none_smaller b (omega (arith, less, qb)) (omega (arith, qb));
              }))
          | inr past ↦
              (let m : min p q / 2 ≡ a = omega (arith, past, pa) in
              subst (λ n. FindsRepeatedAt (p ∷ []) t (Some n)) (sym m) (record {
                holds = record {
                  other = b;
                  shared = subst (λ n. ShareKey Signature t n (2 * b)) pa (subst (λ n. ShareKey Signature t p n) qb f.holds);
                  listed = inl (subst (λ n. contains_node_index (p ∷ []) n ≡ true) pa on);
                };
                smaller = none_smaller a (omega (arith, pa)) (omega (arith, past, pa));
              }))
        ]

    pub repeated-some : FindsRepeatedAt (p ∷ []) t (Some (min p q / 2))
    repeated-some =
        let here = signer t p f.holds.key f.holds.here in
        let there = signer t q f.holds.key f.holds.there in
        between here.at.index there.at.index here.at.node_index there.at.node_index

-- ---- the first leaf of the tree

module _ (node_indices : List ℕ) (old new : Tree) (same : AgreeExceptAt node_indices old new) (was : all_leaves (has_unique_signature_key old) 0 old ≡ true) where
  -- of two leaves with one key, one changed
  one_changed : (i j : ℕ) (x y : LeafNode) → leaf_at 0 new i ≡ Some x → leaf_at 0 new j ≡ Some y → j ≢ i → y.signature_key ≡ x.signature_key
      → IsRepeatedAt node_indices new i
  one_changed i j x y first second other equal =
      let shared : ShareKey Signature new (2 * i) (2 * j) = record {
        key = x.signature_key;
        other = λ e. other (omega (arith, e));
        here = leaf-key_at_node new i x first;
        there = leaf-key_at_node new j y second ∙ ap Some equal;
      } in
      elim (cases_Bool (contains_node_index node_indices (2 * i))) [
        | inl here ↦ record { other = j; shared = shared; listed = inl here }
        | inr kept ↦ elim (cases_Bool (contains_node_index node_indices (2 * j))) [
          | inl there ↦ record { other = j; shared = shared; listed = inr there }
          | inr stays ↦
              (let before = sym (same_leaf-at node_indices old new same i kept) ∙ first in
              absurd (own_key-apart old i x (all_leaves-at (has_unique_signature_key old) 0 old was i x before) j y (sym (same_leaf-at node_indices old new same j stays) ∙ second) other equal))
        ]
      ]

  not_repeated : (i : ℕ) (x : LeafNode) → leaf_at 0 new i ≡ Some x → (IsRepeatedAt node_indices new i → ⊥) → has_unique_signature_key new i x ≡ true
  not_repeated i x set not = own_key-from new i x (λ j y there other equal. not (one_changed i j x y set there other equal))

  repeated-fails : (i : ℕ) (x : LeafNode) → leaf_at 0 new i ≡ Some x → IsRepeatedAt node_indices new i → has_unique_signature_key new i x ≡ false
  repeated-fails i x set h = elim (cases_Bool (has_unique_signature_key new i x)) [
    | inl own ↦
        (let there = signer new (2 * h.other) h.shared.key h.shared.there in
        let key : x.signature_key ≡ h.shared.key = same_Some x.signature_key h.shared.key (sym (leaf-key_at_node new i x set) ∙ h.shared.here) in
        absurd (own_key-apart new i x own there.at.index there.leaf there.at.is (λ e. h.shared.other (there.at.node_index ∙ ap (λ k. 2 * k) e)) (there.has ∙ sym key)))
    | inr fails ↦ fails
  ]

pub changed_repeated : ChangedLeavesFindRepeated
changed_repeated node_indices old new same was None none = all_leaves-each (has_unique_signature_key new) new (λ i x set. not_repeated node_indices old new same was i x set (none i))
changed_repeated node_indices old new same was (Some i) f =
    let here = signer new (2 * i) f.holds.shared.key f.holds.shared.here in
    let at : here.at.index ≡ i = omega (arith, here.at.node_index) in
    let set = subst (λ k. leaf_at 0 new k ≡ Some here.leaf) at here.at.is in
    record {
      node = here.leaf;
      set = set;
      fails = repeated-fails node_indices old new same was i here.leaf set f.holds;
      smaller = λ j y low there. not_repeated node_indices old new same was j y there (f.smaller j low);
    }
