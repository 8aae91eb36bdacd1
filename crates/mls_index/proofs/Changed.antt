-- What the nodes that changed say of the whole tree.
use Rattle.std.proofs.Common.{◌≡◌, ◌≢◌, ◌∙◌, ℕ, ◌*◌, List, Bool, true, false, not, ◌||◌, Some, None, eqb, inl, inr, refl, sym, ap, arith}
use Rattle.std.specs.Str.{bytes_eq}
use Rattle.std.proofs.lemmas.Bool.{cases_Bool, false≢true}
use Rattle.std.proofs.lemmas.Bool.Decides.{nat_tests}
use Rattle.std.proofs.lemmas.Slice.Eq.{bytes_eq-Decides}
use Rattle.mls_nodes.specs.declared.leaf.LeafNode.{LeafNode}
use Rattle.mls_nodes.specs.declared.required_capabilities.RequiredCapabilities.{RequiredCapabilities}
use Rattle.mls_tree.specs.Tree.{Tree, leaf_at}
use Rattle.mls_tree.specs.ChangedNodes.{AgreeExceptAt}
use Rattle.mls_check.specs.DistinctKeys.{HasUniqueKeyAt, IsDistinct}
use Rattle.mls_check.specs.LeafValidation.{all_leaves, member_rule, supports_own_extensions, supports_required, has_unique_signature_key, is_leaf_signed, LeavesAreValid}
use Rattle.mls_check.specs.Signatures.{VerifyFn}
use Rattle.mls_check.proofs.Leaves.{all_leaves-from, all_leaves-at}
use Rattle.mls_check.proofs.Rules.{extensions_hold, requirements_hold, credentials_hold, keys_hold, signatures_hold}
use Rattle.mls_index.specs.IncrementalCheck.{contains_node_index, AreUniqueKeys, ChangedNodesDecideKeys, SupportCredentials, AreNewMembers, ChangedLeavesDecideValidity}
use Rattle.mls_index.specs.FirstChanged.{ChangedLeavesFindFailing}
use Rattle.mls_index.specs.NodeKeys.{IsUniqueKey, node_key}
use Rattle.mls_index.specs.declared.node_key.KeyKind.TheVariants.{Encryption, Signature}
use Rattle.mls_index.proofs.Standing.{same_leaf, leaf-key_at_node, signer}

-- ---- encryption keys

own_key-at : (t : Tree) (p : ℕ) → IsUniqueKey Encryption t p → HasUniqueKeyAt t p
own_key-at t p own q other twins = own q twins.key other twins.here twins.there

at-own_key : (t : Tree) (p : ℕ) → HasUniqueKeyAt t p → IsUniqueKey Encryption t p
at-own_key t p own q key other here there = own q other (record { key = key; here = here; there = there })

module _ (node_indices : List ℕ) (old new : Tree) (same : AgreeExceptAt node_indices old new) (distinct : IsDistinct old) where
  -- of two places with one key, neither changed
  unchanged_twins : AreUniqueKeys Encryption node_indices new → IsDistinct new
  unchanged_twins own p q other twins =
      elim (cases_Bool (contains_node_index node_indices p)) [
        | inl here ↦ own_key-at new p (own p here) q other twins
        | inr p_same ↦ elim (cases_Bool (contains_node_index node_indices q)) [
          | inl there ↦ own_key-at new q (own q there) p (λ e. other (sym e)) (record { key = twins.key; here = twins.there; there = twins.here })
          | inr q_same ↦
              distinct p q other (record {
                key = twins.key;
                here = ap (node_key Encryption) (same p p_same) ∙ twins.here;
                there = ap (node_key Encryption) (same q q_same) ∙ twins.there;
              })
        ]
      ]

pub changed_keys : ChangedNodesDecideKeys
changed_keys node_indices old new same distinct = (λ all p here. at-own_key new p (all p), unchanged_twins node_indices old new same distinct)

-- ---- leaves

-- a test of all set leaves, by each of them
pub all_leaves-each : (test : ℕ → LeafNode → Bool) (t : Tree) → ((i : ℕ) (x : LeafNode) → leaf_at 0 t i ≡ Some x → test i x ≡ true) → all_leaves test 0 t ≡ true
all_leaves-each test t h = all_leaves-from test 0 t (λ i x from low set. h i x set)

module _ (node_indices : List ℕ) (old new : Tree) (same : AgreeExceptAt node_indices old new) where
  pub same_leaf-at : (i : ℕ) → contains_node_index node_indices (2 * i) ≡ false → leaf_at 0 new i ≡ leaf_at 0 old i
  same_leaf-at i off = same_leaf old new i (same (2 * i) off)

  -- a test that asks nothing of other leaves
  changed_leaves : (test : ℕ → LeafNode → Bool) → all_leaves test 0 old ≡ true
      → ((i : ℕ) (x : LeafNode) → contains_node_index node_indices (2 * i) ≡ true → leaf_at 0 new i ≡ Some x → test i x ≡ true) → all_leaves test 0 new ≡ true
  changed_leaves test was now =
      all_leaves-each test new (λ i x set. elim (cases_Bool (contains_node_index node_indices (2 * i))) [
        | inl here ↦ now i x here set
        | inr kept ↦ all_leaves-at test 0 old was i x (sym (same_leaf-at i kept) ∙ set)
      ])

-- the first leaf that fails it
pub changed_first : ChangedLeavesFindFailing
changed_first test node_indices old new same was None h = changed_leaves node_indices old new same test was h
changed_first test node_indices old new same was (Some i) h = record {
  node = h.node;
  set = h.set;
  fails = h.fails;
  smaller = λ j x low there. elim (cases_Bool (contains_node_index node_indices (2 * j))) [
    | inl here ↦ h.smaller j x low here there
    | inr kept ↦ all_leaves-at test 0 old was j x (sym (same_leaf-at node_indices old new same j kept) ∙ there)
  ];
}

-- ---- signature keys

-- no other leaf has the signature key of a leaf
pub own_key-apart : (t : Tree) (i : ℕ) (x : LeafNode) → has_unique_signature_key t i x ≡ true
    → (j : ℕ) (y : LeafNode) → leaf_at 0 t j ≡ Some y → j ≢ i → y.signature_key ≢ x.signature_key
unfolding has_unique_signature_key
own_key-apart t i x own j y set other equal =
    let e = all_leaves-at (λ m z. eqb m i || not (bytes_eq z.signature_key x.signature_key)) 0 t own j y set in
    let apart : eqb j i ≡ false = grind (arith, nat_tests, other) in
    let twin : bytes_eq y.signature_key x.signature_key ≡ true = (bytes_eq-Decides y.signature_key x.signature_key).1 equal in
    let no : false ≡ true = rw (apart, twin) at e in
    absurd (false≢true no)

differs_not : (xs ys : List ℕ) → xs ≢ ys → not (bytes_eq xs ys) ≡ true
differs_not xs ys other =
    elim (cases_Bool (bytes_eq xs ys)) [
      | inl same ↦ absurd (other ((bytes_eq-Decides xs ys).0 same))
      | inr e ↦ rw e refl
    ]

or_true : (a : Bool) {b : Bool} → b ≡ true → (a || b) ≡ true
or_true true e = refl
or_true false e = e

pub own_key-from : (t : Tree) (i : ℕ) (x : LeafNode)
    → ((j : ℕ) (y : LeafNode) → leaf_at 0 t j ≡ Some y → j ≢ i → y.signature_key ≢ x.signature_key) → has_unique_signature_key t i x ≡ true
unfolding has_unique_signature_key
own_key-from t i x h =
    all_leaves-each (λ m z. eqb m i || not (bytes_eq z.signature_key x.signature_key)) t (λ j y set.
    elim (cases_Bool (eqb j i)) [
      | inl same ↦ rw same refl
      | inr other ↦ or_true (eqb j i) (differs_not y.signature_key x.signature_key (h j y set (λ e. let t : eqb j i ≡ true = grind (arith, nat_tests) in absurd (false≢true (sym other ∙ t)))))
    ])

-- a leaf's key is its own by places
own_node_index-leaf : (t : Tree) (i : ℕ) (x : LeafNode) → leaf_at 0 t i ≡ Some x → IsUniqueKey Signature t (2 * i) → has_unique_signature_key t i x ≡ true
own_node_index-leaf t i x set own =
    own_key-from t i x (λ j y there other equal.
    own (2 * j) x.signature_key (λ e. other (omega arith)) (leaf-key_at_node t i x set) (leaf-key_at_node t j y there ∙ ap Some equal))

-- and the other way, of all leaves
leaves-own_node_index : (t : Tree) → all_leaves (has_unique_signature_key t) 0 t ≡ true → (p : ℕ) → IsUniqueKey Signature t p
leaves-own_node_index t own p q key other here there =
    let a = signer t p key here in
    let b = signer t q key there in
    own_key-apart t a.at.index a.leaf (all_leaves-at (has_unique_signature_key t) 0 t own a.at.index a.leaf a.at.is) b.at.index b.leaf b.at.is
    (λ e. other (b.at.node_index ∙ ap (λ i. 2 * i) e ∙ sym a.at.node_index)) (b.has ∙ sym a.has)

module _ (node_indices : List ℕ) (old new : Tree) (same : AgreeExceptAt node_indices old new) where
  pub changed_signature_keys : all_leaves (has_unique_signature_key old) 0 old ≡ true → AreUniqueKeys Signature node_indices new
      → all_leaves (has_unique_signature_key new) 0 new ≡ true
  changed_signature_keys was own =
      all_leaves-each (has_unique_signature_key new) new (λ i x set. elim (cases_Bool (contains_node_index node_indices (2 * i))) [
        | inl here ↦ own_node_index-leaf new i x set (own (2 * i) here)
        | inr kept ↦ own_key-from new i x (λ j y there other. elim (cases_Bool (contains_node_index node_indices (2 * j))) [
          | inl moved ↦ λ equal. own_key-apart new j y (own_node_index-leaf new j y there (own (2 * j) moved)) i x set (λ e. other (sym e)) (sym equal)
          | inr stays ↦
              (let before = sym (same_leaf-at node_indices old new same i kept) ∙ set in
              own_key-apart old i x (all_leaves-at (has_unique_signature_key old) 0 old was i x before) j y (sym (same_leaf-at node_indices old new same j stays) ∙ there) other)
        ])
      ])

-- ---- members

module _ (G : VerifyFn) (suite : ℕ) (group_id : List ℕ) (required : RequiredCapabilities) (t : Tree) (m : LeavesAreValid G suite group_id required t) where
  pub members-extensions : all_leaves (λ _ x. supports_own_extensions x) 0 t ≡ true
  unfolding member_rule
  members-extensions = m.rules 1

  pub members-requirements : all_leaves (λ _ x. supports_required required x) 0 t ≡ true
  unfolding member_rule
  members-requirements = m.rules 2

  members-credentials : SupportCredentials t
  unfolding member_rule
  members-credentials = m.rules 3

  pub members-keys : all_leaves (has_unique_signature_key t) 0 t ≡ true
  unfolding member_rule
  members-keys = m.rules 4

  pub members-signatures : all_leaves (is_leaf_signed G suite group_id) 0 t ≡ true
  unfolding member_rule
  members-signatures = m.rules 5

members-from : (G : VerifyFn) (suite : ℕ) (group_id : List ℕ) (required : RequiredCapabilities) (t : Tree)
    → all_leaves (λ _ x. supports_own_extensions x) 0 t ≡ true → all_leaves (λ _ x. supports_required required x) 0 t ≡ true
    → SupportCredentials t → all_leaves (has_unique_signature_key t) 0 t ≡ true
    → all_leaves (is_leaf_signed G suite group_id) 0 t ≡ true → LeavesAreValid G suite group_id required t
members-from G suite group_id required t a b c d e =
    signatures_hold G suite group_id required t
    (keys_hold G suite group_id required t
    (credentials_hold G suite group_id required t
    (requirements_hold G suite group_id required t (extensions_hold G suite group_id required t a) b) c) d) e

module _ (G : VerifyFn) (suite : ℕ) (group_id : List ℕ) (required : RequiredCapabilities) (node_indices : List ℕ) (old new : Tree)
    (same : AgreeExceptAt node_indices old new) where
  new_members : LeavesAreValid G suite group_id required old → AreNewMembers G suite group_id required node_indices new → LeavesAreValid G suite group_id required new
  new_members m h =
      members-from G suite group_id required new
      (changed_leaves node_indices old new same (λ _ x. supports_own_extensions x) (members-extensions G suite group_id required old m) (λ i x here set. (h.own i x here set).extensions))
      (changed_leaves node_indices old new same (λ _ x. supports_required required x) (members-requirements G suite group_id required old m) (λ i x here set. (h.own i x here set).requirements))
      h.credentials
      (changed_signature_keys node_indices old new same (members-keys G suite group_id required old m) h.keys)
      (changed_leaves node_indices old new same (is_leaf_signed G suite group_id) (members-signatures G suite group_id required old m) (λ i x here set. (h.own i x here set).signed))

  are_new_members : LeavesAreValid G suite group_id required new → AreNewMembers G suite group_id required node_indices new
  are_new_members m = record {
    own = λ i x here set. record {
      extensions = all_leaves-at (λ _ x. supports_own_extensions x) 0 new (members-extensions G suite group_id required new m) i x set;
      requirements = all_leaves-at (λ _ x. supports_required required x) 0 new (members-requirements G suite group_id required new m) i x set;
      signed = all_leaves-at (is_leaf_signed G suite group_id) 0 new (members-signatures G suite group_id required new m) i x set;
    };
    keys = λ p here. leaves-own_node_index new (members-keys G suite group_id required new m) p;
    credentials = members-credentials G suite group_id required new m;
  }

pub changed_members : ChangedLeavesDecideValidity
changed_members G suite group_id required node_indices old new same m =
    (are_new_members G suite group_id required node_indices old new same, new_members G suite group_id required node_indices old new same m)
