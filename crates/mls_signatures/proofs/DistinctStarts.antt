-- The signatures of a start from a tree whose leaves have distinct signature keys have no duplicates.
use Rattle.std.proofs.Common.{◌≡◌, ◌≢◌, ◌∙◌, ℕ, zero, suc, ◌+◌, ◌<◌, ◌≤◌, List, [], ◌∷◌, ◌++◌, length, get_or, Bool, true, false, cond, not, Option, Some, None, codes, refl, sym, ap, subst, arith, inl, inr}
use Rattle.std.specs.Prelude.{◌||◌, ◌==◌, if◌then◌else◌}
use Rattle.std.specs.List.{All}
use Rattle.std.specs.Str.{bytes_eq}
use Rattle.std.proofs.lemmas.Bool.{cases_Bool, false≢true}
use Rattle.std.proofs.lemmas.Bool.Decides.{nat_tests}
use Rattle.std.proofs.lemmas.Option.{same_Some}
use Rattle.std.proofs.lemmas.List.Elements.{All-nil, All-cons, All-head, All-tail, All-append}
use Rattle.std.proofs.lemmas.Slice.Eq.{bytes_eq-Decides}
use Rattle.mls_wire.specs.Encoding.{◌⊕◌, length_form, vector}
use Rattle.mls_wire.specs.EncodingConcat.{joined}
use Rattle.mls_nodes.specs.declared.leaf.LeafNode.{LeafNode}
use Rattle.mls_nodes.specs.LeafNodeTBS.{leaf_tbs}
use Rattle.mls_tree.specs.Tree.{Tree, leaf, branch, leaf_count, leaf_at}
use Rattle.mls_check.specs.LeafValidation.{all_leaves, has_unique_signature_key}
use Rattle.mls_check.specs.Signatures.{sign_content}
use Rattle.mls_check.proofs.Leaves.{all_leaves-at}
use Rattle.mls_msgs.specs.Tbs.{info_label, info_tbs}
use Rattle.mls_msgs.specs.declared.group_info.GroupInfo.{GroupInfo}
use Rattle.mls_signatures.proofs.Agreement.{same_is}
use Rattle.mls_signatures.proofs.LeafLists.{of_leaf_in, signatures_below, tree-joined}
use Rattle.mls_signatures.specs.DistinctStarts.{StartSignaturesAreDistinct}
use Rattle.mls_signatures.specs.SignaturesToVerify.{sign_content_signatures, labeled_signatures, info_signatures, non_blank_leaf_signatures, tree_signatures, is_same, without_signature, deduplicated, is_supported_info}
use Rattle.mls_signatures.specs.declared.signature_to_verify.SignatureToVerify.{SignatureToVerify}

-- ---- lists without duplicates

-- none of the list is equal to this one
abbrev IsFresh : SignatureToVerify → List SignatureToVerify → Type 0
IsFresh q qs = All (λ r. is_same q r ≡ false) qs

abbrev HasNoDuplicates : List SignatureToVerify → Type 0
HasNoDuplicates [] = Unit {0}
HasNoDuplicates (q ∷ qs) = IsFresh q qs × HasNoDuplicates qs

kept : (b : Bool) (r : SignatureToVerify) (rs : List SignatureToVerify) → b ≡ false → cond (not b) (r ∷ rs) rs ≡ r ∷ rs
kept true r rs e = absurd cc
kept false r rs e = refl

without_fresh : (q : SignatureToVerify) (qs : List SignatureToVerify) → IsFresh q qs → without_signature q qs ≡ qs
without_fresh q [] h = refl
without_fresh q (r ∷ rs) h =
    kept (is_same q r) r (without_signature q rs) (All-head (λ (r : SignatureToVerify). is_same q r ≡ false) r rs h)
    ∙ ap (λ (ws : List SignatureToVerify). r ∷ ws) (without_fresh q rs (All-tail (λ (r : SignatureToVerify). is_same q r ≡ false) r rs h))

distinct_stays : (qs : List SignatureToVerify) → HasNoDuplicates qs → deduplicated qs ≡ qs
distinct_stays [] h = refl
distinct_stays (q ∷ qs) h =
    ap (λ (ws : List SignatureToVerify). q ∷ without_signature q ws) (distinct_stays qs h.1)
    ∙ ap (λ (ws : List SignatureToVerify). q ∷ ws) (without_fresh q qs h.0)

no_duplicates-both : (xs ys : List SignatureToVerify) → HasNoDuplicates xs → HasNoDuplicates ys → All (λ q. IsFresh q ys) xs → HasNoDuplicates (xs ++ ys)
no_duplicates-both [] ys a b c = b
no_duplicates-both (x ∷ xs) ys a b c = (
  All-append (λ (r : SignatureToVerify). is_same x r ≡ false) xs ys a.0 (All-head (λ (q : SignatureToVerify). IsFresh q ys) x xs c),
  no_duplicates-both xs ys a.1 b (All-tail (λ (q : SignatureToVerify). IsFresh q ys) x xs c),
)

lone : (qs : List SignatureToVerify) → length qs ≤ 1 → HasNoDuplicates qs
lone [] low = tt
lone (q ∷ []) low = (All-nil (λ (r : SignatureToVerify). is_same q r ≡ false), tt)
lone (q ∷ r ∷ rs) low = absurd (omega (arith, low))

differing : (a b : SignatureToVerify) → (a ≡ b → ⊥) → is_same a b ≡ false
differing a b other = elim (cases_Bool (is_same a b)) [ inl e ↦ absurd (other (same_is a b e)) | inr e ↦ e ]

-- ---- the signature of one thing that is signed

-- the content is a SignContent under this label
abbrev IsUnder : List ℕ → SignatureToVerify → Type 0
IsUnder label r = (tbs : List ℕ) × (sign_content label tbs ≡ Some r.content)

module _ (suite : ℕ) (key label signature : List ℕ) where
  keyed_content : (o : Option (List ℕ)) → All (λ r. r.key ≡ key) (sign_content_signatures suite key signature o)
  keyed_content None = All-nil (λ (r : SignatureToVerify). r.key ≡ key)
  keyed_content (Some content) =
      All-cons (λ (r : SignatureToVerify). r.key ≡ key) (record { suite = suite; key = key; content = content; signature = signature }) [] refl
      (All-nil (λ (r : SignatureToVerify). r.key ≡ key))

  one_content : (o : Option (List ℕ)) → length (sign_content_signatures suite key signature o) ≤ 1
  one_content None = omega arith
  one_content (Some content) = omega arith

  under_content : (tbs : List ℕ) (o : Option (List ℕ)) → sign_content label tbs ≡ o → All (IsUnder label) (sign_content_signatures suite key signature o)
  under_content tbs None e = All-nil (IsUnder label)
  under_content tbs (Some content) e =
      All-cons (IsUnder label) (record { suite = suite; key = key; content = content; signature = signature }) [] (tbs, e) (All-nil (IsUnder label))

  keyed : (tbs : Option (List ℕ)) → All (λ r. r.key ≡ key) (labeled_signatures suite key label tbs signature)
  keyed None = All-nil (λ (r : SignatureToVerify). r.key ≡ key)
  keyed (Some tbs) = keyed_content (sign_content label tbs)

  one : (tbs : Option (List ℕ)) → length (labeled_signatures suite key label tbs signature) ≤ 1
  one None = omega arith
  one (Some tbs) = one_content (sign_content label tbs)

  under : (tbs : Option (List ℕ)) → All (IsUnder label) (labeled_signatures suite key label tbs signature)
  under None = All-nil (IsUnder label)
  under (Some tbs) = under_content tbs (sign_content label tbs) refl

-- ---- those of leaves

own_key-apart : (t : Tree) (i : ℕ) (x : LeafNode) → has_unique_signature_key t i x ≡ true
    → (j : ℕ) (y : LeafNode) → leaf_at 0 t j ≡ Some y → j ≢ i → y.signature_key ≢ x.signature_key
unfolding has_unique_signature_key
own_key-apart t i x own j y set other equal =
    let e = all_leaves-at (λ m z. m == i || not (bytes_eq z.signature_key x.signature_key)) 0 t own j y set in
    let apart : (j == i) ≡ false = grind (arith, nat_tests, other) in
    let twin : bytes_eq y.signature_key x.signature_key ≡ true = (bytes_eq-Decides y.signature_key x.signature_key).1 equal in
    let no : false ≡ true = rw (apart, twin) at e in
    absurd (false≢true no)

abbrev leaf_label : List ℕ
leaf_label = codes "MLS 1.0 LeafNodeTBS"

module _ (suite : ℕ) (group_id : List ℕ) where
  pub one_of_leaf : (i : ℕ) (o : Option LeafNode) → length (non_blank_leaf_signatures suite group_id i o) ≤ 1
  one_of_leaf i None = omega arith
  one_of_leaf i (Some x) = one suite x.signature_key leaf_label x.signature (leaf_tbs x group_id i)

  under_leaf : (i : ℕ) (o : Option LeafNode) → All (IsUnder leaf_label) (non_blank_leaf_signatures suite group_id i o)
  under_leaf i None = All-nil (IsUnder leaf_label)
  under_leaf i (Some x) = under suite x.signature_key leaf_label x.signature (leaf_tbs x group_id i)

  under_tree : (first : ℕ) (t : Tree) → All (IsUnder leaf_label) (tree_signatures suite group_id first t)
  under_tree first (leaf x) = under_leaf first x
  under_tree first (branch l n r) =
      All-append (IsUnder leaf_label) (tree_signatures suite group_id first l) (tree_signatures suite group_id (first + leaf_count l) r)
      (under_tree first l) (under_tree (first + leaf_count l) r)

  module _ (t : Tree) (own : all_leaves (has_unique_signature_key t) 0 t ≡ true) where
    -- under the key of leaf i
    abbrev IsOfLeaf : ℕ → SignatureToVerify → Type 0
    IsOfLeaf i r = (x : LeafNode) × (leaf_at 0 t i ≡ Some x) × (r.key ≡ x.signature_key)

    -- under the key of a leaf below index n
    abbrev IsOfBelow : ℕ → SignatureToVerify → Type 0
    IsOfBelow n r = (i : ℕ) × (i < n) × IsOfLeaf i r

    of_leaf : (i : ℕ) (o : Option LeafNode) → leaf_at 0 t i ≡ o → All (IsOfLeaf i) (non_blank_leaf_signatures suite group_id i o)
    of_leaf i None e = All-nil (IsOfLeaf i)
    of_leaf i (Some x) e = λ k d l. (x, e, keyed suite x.signature_key leaf_label x.signature (leaf_tbs x group_id i) k d l)

    of_below : (n : ℕ) → All (IsOfBelow n) (signatures_below suite group_id t n)
    of_below zero = All-nil (IsOfBelow zero)
    of_below (suc n) =
        All-append (IsOfBelow (suc n)) (signatures_below suite group_id t n) (of_leaf_in suite group_id 0 t (0 + n))
        (λ k d l. let h = of_below n k d l in (h.0, omega (arith, h.1), h.2))
        (λ k d l. (0 + n, omega arith, of_leaf (0 + n) (leaf_at 0 t (0 + n)) refl k d l))

    apart : (i j : ℕ) (q r : SignatureToVerify) → i < j → IsOfLeaf i q → IsOfLeaf j r → is_same q r ≡ false
    apart i j q r low a b =
        differing q r (λ e.
        own_key-apart t j b.0 (all_leaves-at (has_unique_signature_key t) 0 t own j b.0 b.1) i a.0 a.1 (λ same. omega (arith, low, same))
        (sym a.2 ∙ ap (λ (w : SignatureToVerify). w.key) e ∙ b.2))

    distinct_below : (n : ℕ) → HasNoDuplicates (signatures_below suite group_id t n)
    distinct_below zero = tt
    distinct_below (suc n) =
        no_duplicates-both (signatures_below suite group_id t n) (of_leaf_in suite group_id 0 t (0 + n)) (distinct_below n) (lone (of_leaf_in suite group_id 0 t (0 + n)) (one_of_leaf (0 + n) (leaf_at 0 t (0 + n))))
        (λ k d l.
        let a = of_below n k d l in
        λ m c s.
        apart a.0 (0 + n) (get_or (signatures_below suite group_id t n) k d) (get_or (of_leaf_in suite group_id 0 t (0 + n)) m c) (omega (arith, a.1)) a.2
        (of_leaf (0 + n) (leaf_at 0 t (0 + n)) refl m c s))

    distinct_tree : HasNoDuplicates (tree_signatures suite group_id 0 t)
    distinct_tree = subst (λ (ws : List SignatureToVerify). HasNoDuplicates ws) (sym (tree-joined suite group_id 0 t)) (distinct_below (leaf_count t))

-- ---- that of a GroupInfo

one_of_info : (info : GroupInfo) (o : Option LeafNode) → length (info_signatures info o) ≤ 1
one_of_info info None = omega arith
one_of_info info (Some x) = one info.context.cipher_suite x.signature_key info_label info.signature (info_tbs info)

under_info : (info : GroupInfo) (o : Option LeafNode) → All (IsUnder info_label) (info_signatures info o)
under_info info None = All-nil (IsUnder info_label)
under_info info (Some x) = under info.context.cipher_suite x.signature_key info_label info.signature (info_tbs info)

-- the two labels have another length, with which a SignContent begins
first_of : List ℕ → ℕ
first_of [] = 0
first_of (n ∷ ns) = n

begins : (label content : List ℕ) (n : ℕ) → vector label ≡ Some (n ∷ label) → (tbs : List ℕ) → sign_content label tbs ≡ Some content → first_of content ≡ n
unfolding sign_content first_of
begins label content n form tbs e =
    let parts = joined (vector label) (vector tbs) content e in
    ap first_of parts.4 ∙ ap (λ (x : List ℕ). first_of (x ++ parts.1)) (same_Some parts.0 (n ∷ label) (sym parts.2 ∙ form))

info_form : vector info_label ≡ Some (20 ∷ info_label)
unfolding vector length_form ◌⊕◌
info_form = refl

leaf_form : vector leaf_label ≡ Some (19 ∷ leaf_label)
unfolding vector length_form ◌⊕◌
leaf_form = refl

other_labels : (q r : SignatureToVerify) → IsUnder info_label q → IsUnder leaf_label r → is_same q r ≡ false
other_labels q r a b =
    differing q r (λ e.
    let long = begins info_label q.content 20 info_form a.0 a.1 in
    let short = begins leaf_label r.content 19 leaf_form b.0 b.1 in
    let same : first_of q.content ≡ first_of r.content = ap (λ (w : SignatureToVerify). first_of w.content) e in
    omega (arith, long, short, same))

-- ---- the signatures of a start

module _ (info : GroupInfo) (t : Tree) (own : all_leaves (has_unique_signature_key t) 0 t ≡ true) where
  abbrev all : List SignatureToVerify
  all =
      info_signatures info (leaf_at 0 t info.signer) ++
      tree_signatures info.context.cipher_suite info.context.group_id 0 t

  no_duplicates : HasNoDuplicates all
  no_duplicates =
      let suite = info.context.cipher_suite in
      let group_id = info.context.group_id in
      no_duplicates-both (info_signatures info (leaf_at 0 t info.signer)) (tree_signatures suite group_id 0 t) (lone (info_signatures info (leaf_at 0 t info.signer)) (one_of_info info (leaf_at 0 t info.signer)))
      (distinct_tree suite group_id t own)
      (λ k d l. λ m c s.
      other_labels (get_or (info_signatures info (leaf_at 0 t info.signer)) k d) (get_or (tree_signatures suite group_id 0 t) m c)
      (under_info info (leaf_at 0 t info.signer) k d l) (under_tree suite group_id 0 t m c s))

  all_or_none : (b : Bool) → deduplicated (if b then all else []) ≡ (if b then all else [])
  all_or_none true = distinct_stays all no_duplicates
  all_or_none false = refl

pub start_signatures_are_distinct : StartSignaturesAreDistinct
start_signatures_are_distinct info t own = all_or_none info t own (is_supported_info info)
