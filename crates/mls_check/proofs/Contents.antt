-- Which contents have a SignContent: those within the limit of a vector.
use Rattle.std.proofs.Common.{◌≡◌, ℕ, ◌^◌, ◌<◌, ◌≤◌, List, [], ◌++◌, length, append_assoc, Option, Some, None, IsSome, false, true, refl, sym, ap, ◌∙◌, inl, inr, arith}
use Rattle.std.specs.Prelude.{◌⊎◌, codes, option_map}
use Rattle.mls_wire.specs.Encoding.{◌⊕◌, number, length_form, vector}
use Rattle.std.proofs.lemmas.List.{append-nil}
use Rattle.mls_wire.specs.EncodingConcat.{join, no_left, no_right}
use Rattle.std.specs.Int.{w32, to_be_bytes}
use Rattle.mls_wire.specs.IntegersExact.{number_made}
use Rattle.mls_wire.specs.EncodedSizes.{some_size, vector_some}
use Rattle.mls_wire.specs.VectorsExact.{vector_within}
use Rattle.mls_nodes.specs.declared.leaf.LeafNode.{LeafNode}
use Rattle.mls_nodes.specs.Layout.{unsigned_leaf}
use Rattle.mls_nodes.specs.LeafNodeTBS.{leaf_tbs, tbs_suffix}
use Rattle.mls_nodes.specs.declared.leaf_source.Lifetime.{Lifetime}
use Rattle.mls_nodes.specs.declared.leaf_source.LeafSource.{LeafSource}
use Rattle.mls_nodes.specs.declared.leaf_source.LeafSource.TheVariants.{KeyPackage, Update, Commit}
use Rattle.mls_check.specs.Signatures.{AcceptsAll, VerifyFn, sign_content, is_good, is_signed, is_signed_text}
use Rattle.mls_check.specs.LeafValidation.{is_leaf_signed}
use Rattle.mls_check.proofs.Inputs.{vector-some}

both_there : (a b : Option (List ℕ)) → IsSome a → IsSome b → IsSome (a ⊕ b)
unfolding ◌⊕◌
both_there None b h k = absurd cc
both_there (Some x) None h k = absurd cc
both_there (Some x) (Some y) h k = refl

-- a label and a content within the limit
pub sign_content-within : (label tbs : List ℕ) → length label ≤ 1073741823 → length tbs ≤ 1073741823 → IsSome (sign_content label tbs)
unfolding sign_content
sign_content-within label tbs a b = both_there (vector label) (vector tbs) (vector_some label a) (vector_some tbs b)

no_vector_by : (s : List ℕ) → 1073741823 < length s → (o : Option (List ℕ)) → vector s ≡ o → vector s ≡ None
no_vector_by s over None e = e
no_vector_by s over (Some front) e = let within = vector_within s front e in absurd (omega arith)

no_vector : (s : List ℕ) → 1073741823 < length s → vector s ≡ None
no_vector s over = no_vector_by s over (vector s) refl

-- one of which is over it
sign_content-over : (label tbs : List ℕ) → (1073741823 < length label) ⊎ (1073741823 < length tbs) → sign_content label tbs ≡ None
unfolding sign_content
sign_content-over label tbs (inl over) = no_left (vector label) (vector tbs) (no_vector label over)
sign_content-over label tbs (inr over) = no_right (vector label) (vector tbs) (no_vector tbs over)

-- both within it, in pieces
pub sign_content-pieces : (label tbs a b : List ℕ) → length_form (length label) ≡ Some a → length_form (length tbs) ≡ Some b
    → sign_content label tbs ≡ Some (a ++ (label ++ (b ++ (tbs ++ []))))
unfolding sign_content
sign_content-pieces label tbs a b e f =
    let pieces : (a ++ label) ++ (b ++ tbs) ≡ a ++ (label ++ (b ++ (tbs ++ []))) =
    append_assoc a label (b ++ tbs) ∙ ap (λ (t : List ℕ). a ++ (label ++ (b ++ t))) (sym (append-nil tbs)) in
    join (vector label) (vector tbs) (a ++ label) (b ++ tbs) (vector-some label a e) (vector-some tbs b f) ∙ ap (λ (t : List ℕ). Some t) pieces

module _ (G : VerifyFn) (suite : ℕ) (key label signature : List ℕ) where
  pub is_signed-content : (tbs content : List ℕ) → sign_content label tbs ≡ Some content → G suite key content signature ≡ is_signed G suite key label tbs signature
  is_signed-content tbs content e = sym (ap (is_good G suite key signature) e)

  pub is_signed-over : (tbs : List ℕ) → (1073741823 < length label) ⊎ (1073741823 < length tbs) → is_signed G suite key label tbs signature ≡ false
  is_signed-over tbs over = ap (is_good G suite key signature) (sign_content-over label tbs over)

  pub is_signed_text-over : (text : Option (List ℕ)) (n : ℕ) → option_map length text ≡ Some n → 1073741823 < n → is_signed_text G suite key label text signature ≡ false
  is_signed_text-over text n long over =
      let t = some_size text n long in
      ap (λ o. is_signed_text G suite key label o signature) t.1 ∙ is_signed-over t.0 (inr (omega (arith, t.2)))

-- a leaf whose LeafNodeTBS is over it
pub is_leaf_signed-over : (G : VerifyFn) (suite : ℕ) (group_id : List ℕ) (i : ℕ) (x : LeafNode) (n : ℕ)
    → option_map length (leaf_tbs x group_id i) ≡ Some n → 1073741823 < n → is_leaf_signed G suite group_id i x ≡ false
unfolding is_leaf_signed
is_leaf_signed-over G suite group_id i x n long over = is_signed_text-over G suite x.signature_key (codes "MLS 1.0 LeafNodeTBS") x.signature (leaf_tbs x group_id i) n long over

-- the signature over a SignContent, if every signature is good
good-all : (G : VerifyFn) (suite : ℕ) (key signature : List ℕ) → AcceptsAll G → (o : Option (List ℕ)) → IsSome o → is_good G suite key signature o ≡ true
good-all G suite key signature all None there = absurd cc
good-all G suite key signature all (Some content) there = all suite key content signature

-- a leaf whose LeafNodeTBS is within the limit is signed, if every signature is good
pub is_leaf_signed-all : (G : VerifyFn) (suite : ℕ) (group_id : List ℕ) (i : ℕ) (x : LeafNode) (n : ℕ)
    → option_map length (leaf_tbs x group_id i) ≡ Some n → n ≤ 1073741823 → AcceptsAll G → is_leaf_signed G suite group_id i x ≡ true
unfolding is_leaf_signed
is_leaf_signed-all G suite group_id i x n long low all =
    let t = some_size (leaf_tbs x group_id i) n long in
    ap (λ o. is_signed_text G suite x.signature_key (codes "MLS 1.0 LeafNodeTBS") o x.signature) t.1
    ∙ good-all G suite x.signature_key x.signature all (sign_content (codes "MLS 1.0 LeafNodeTBS") t.0)
    (sign_content-within (codes "MLS 1.0 LeafNodeTBS") t.0 (omega arith) (omega (arith, t.2, low)))

-- a vector whose body has this length
body_sized : (tbs : List ℕ) (text : Option (List ℕ)) (n : ℕ) → text ≡ Some tbs → length tbs ≡ n → length_form n ⊕ text ≡ vector tbs
unfolding vector
body_sized tbs text n is len = ap (λ (o : Option (List ℕ)). length_form n ⊕ o) is ∙ ap (λ (k : ℕ). length_form k ⊕ Some tbs) (sym len)

-- a label and a text of known length, as a SignContent
sized_content : (label : List ℕ) (text : Option (List ℕ)) (n : ℕ) → option_map length text ≡ Some n
    → (tbs : List ℕ) × (text ≡ Some tbs) × (length tbs ≡ n) × (vector label ⊕ (length_form n ⊕ text) ≡ sign_content label tbs)
unfolding sign_content
sized_content label text n long =
    let t = some_size text n long in
    (t.0, t.1, t.2, ap (λ (o : Option (List ℕ)). vector label ⊕ o) (body_sized t.0 text n t.1 t.2))

-- what the checker says of a leaf's SignContent, by its bytes
pub is_leaf_signed-content : (G : VerifyFn) (suite : ℕ) (group_id : List ℕ) (i : ℕ) (x : LeafNode) (n : ℕ) (content : List ℕ)
    → option_map length (leaf_tbs x group_id i) ≡ Some n
    → vector (codes "MLS 1.0 LeafNodeTBS") ⊕ (length_form n ⊕ leaf_tbs x group_id i) ≡ Some content
    → G suite x.signature_key content x.signature ≡ is_leaf_signed G suite group_id i x
unfolding is_leaf_signed
is_leaf_signed-content G suite group_id i x n content long whole =
    let s = sized_content (codes "MLS 1.0 LeafNodeTBS") (leaf_tbs x group_id i) n long in
    sym (ap (λ o. is_signed_text G suite x.signature_key (codes "MLS 1.0 LeafNodeTBS") o x.signature) s.1 ∙ ap (is_good G suite x.signature_key x.signature) (sym s.3 ∙ whole))

-- what follows a leaf node in its LeafNodeTBS, in pieces
pub no_suffix : (source : LeafSource) (group_id : List ℕ) (i : ℕ) (lifetime : Lifetime) → source ≡ KeyPackage lifetime → tbs_suffix source group_id i ≡ Some []
unfolding tbs_suffix
no_suffix source group_id i lifetime e = rw e refl

place_pieces : (group_id : List ℕ) (i : ℕ) (a : List ℕ) → i < 2 ^ 32 → length_form (length group_id) ≡ Some a
    → vector group_id ⊕ number w32 i ≡ Some (a ++ (group_id ++ (to_be_bytes w32 i ++ [])))
place_pieces group_id i a lt e =
    let place = to_be_bytes w32 i in
    let pieces : (a ++ group_id) ++ place ≡ a ++ (group_id ++ (place ++ [])) =
    append_assoc a group_id place ∙ ap (λ (t : List ℕ). a ++ (group_id ++ t)) (sym (append-nil place)) in
    join (vector group_id) (number w32 i) (a ++ group_id) place (vector-some group_id a e) (number_made w32 i lt) ∙ ap (λ (t : List ℕ). Some t) pieces

pub place_suffix : (source : LeafSource) (group_id : List ℕ) (i : ℕ) (a : List ℕ) → i < 2 ^ 32 → length_form (length group_id) ≡ Some a
    → (source ≡ Update) ⊎ ((parent_hash : List ℕ) × (source ≡ Commit parent_hash)) → tbs_suffix source group_id i ≡ Some (a ++ (group_id ++ (to_be_bytes w32 i ++ [])))
unfolding tbs_suffix
place_suffix source group_id i a lt e (inl update) = rw update (place_pieces group_id i a lt e)
place_suffix source group_id i a lt e (inr commit) = rw commit.1 (place_pieces group_id i a lt e)

-- what the checker says of a leaf's SignContent, by its pieces
pub is_leaf_signed-pieces : (G : VerifyFn) (suite : ℕ) (group_id : List ℕ) (i : ℕ) (x : LeafNode) (n : ℕ) (a b unsigned suffix : List ℕ)
    → option_map length (leaf_tbs x group_id i) ≡ Some n → length_form (length (codes "MLS 1.0 LeafNodeTBS")) ≡ Some a → length_form n ≡ Some b
    → unsigned_leaf x ≡ Some unsigned → tbs_suffix x.source group_id i ≡ Some suffix
    → G suite x.signature_key (a ++ (codes "MLS 1.0 LeafNodeTBS" ++ (b ++ (unsigned ++ suffix)))) x.signature ≡ is_leaf_signed G suite group_id i x
unfolding leaf_tbs
is_leaf_signed-pieces G suite group_id i x n a b unsigned suffix long label_len tbs_len u s =
    let label : List ℕ = codes "MLS 1.0 LeafNodeTBS" in
    let tbs = join (unsigned_leaf x) (tbs_suffix x.source group_id i) unsigned suffix u s in
    let rest = join (length_form n) (leaf_tbs x group_id i) b (unsigned ++ suffix) tbs_len tbs in
    let whole = join (vector label) (length_form n ⊕ leaf_tbs x group_id i) (a ++ label) (b ++ (unsigned ++ suffix)) (vector-some label a label_len) rest in
    is_leaf_signed-content G suite group_id i x n (a ++ (label ++ (b ++ (unsigned ++ suffix)))) long
    (whole ∙ ap (λ (t : List ℕ). Some t) (append_assoc a label (b ++ (unsigned ++ suffix))))
