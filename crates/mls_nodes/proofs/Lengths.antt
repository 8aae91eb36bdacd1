-- How many bytes the parts of nodes take.
use Rattle.std.proofs.Common.{◌≡◌, ℕ, suc, ◌+◌, ◌*◌, ◌^◌, ◌<◌, ◌≤◌, List, [], ◌∷◌, length, get_or, Option, Some, refl, sym, ap, ◌∙◌, arith}
use Rattle.std.proofs.lemmas.Bool.{le-leb}
use Rattle.std.specs.Prelude.{option_map}
use Rattle.std.specs.Int.{w16, w32, w64}
use Rattle.mls_wire.specs.Encoding.{◌⊕◌, number, length_form, vector, sized, items, list}
use Rattle.mls_wire.specs.IntegersExact.{wide16, wide32, wide64}
use Rattle.mls_wire.specs.LengthsExact.{form_1, form_2, form_4}
use Rattle.mls_wire.specs.EncodedSizes.{some_size, number_size}
use Rattle.mls_wire.specs.WriteSequences.{size_then, sized_makes}
use Rattle.mls_nodes.specs.declared.leaf_source.LeafSource.TheVariants.{KeyPackage, Update, Commit}
use Rattle.mls_nodes.specs.declared.leaf_source.Lifetime.{Lifetime}
use Rattle.mls_nodes.specs.declared.leaf.LeafNode.{LeafNode}
use Rattle.mls_nodes.specs.declared.parent.ParentNode.{ParentNode}
use Rattle.mls_nodes.specs.declared.context.GroupContext.{GroupContext}
use Rattle.mls_nodes.specs.Extension.{extension}
use Rattle.mls_nodes.specs.Layout.{unsigned_leaf, unmerged, parent, group_context}
use Rattle.mls_nodes.specs.LeafNodeTBS.{tbs_suffix, leaf_tbs}

-- a text has a length
abbrev pub HasLength : Option (List ℕ) → ℕ → Type 0
HasLength text n = option_map length text ≡ Some n

-- one text after another
pub after_each : (a b : Option (List ℕ)) (m n k : ℕ) → HasLength a m → HasLength b n → k ≡ m + n → HasLength (a ⊕ b) k
after_each a b m n k e f s = size_then a b m n e f ∙ ap (λ (x : ℕ). Some x) (sym s)

pub number_w16 : (n : ℕ) → n < 2 ^ 16 → HasLength (number w16 n) 2
number_w16 n lt = sym (number_size w16 wide16 n lt)

pub number_w32 : (n : ℕ) → n < 2 ^ 32 → HasLength (number w32 n) 4
number_w32 n lt = sym (number_size w32 wide32 n lt)

pub number_w64 : (n : ℕ) → n < 2 ^ 64 → HasLength (number w64 n) 8
number_w64 n lt = sym (number_size w64 wide64 n lt)

pub vector_has : (body : List ℕ) (k n : ℕ) → HasLength (length_form (length body)) k → n ≡ k + length body → HasLength (vector body) n
unfolding vector
vector_has body k n e s = after_each (length_form (length body)) (Some body) k (length body) n e refl s

pub sized_has : (text : Option (List ℕ)) (body k n : ℕ) → HasLength text body → HasLength (length_form body) k → n ≡ k + body → HasLength (sized text) n
sized_has text body k n e f s =
    let t = some_size text body e in
    let g : HasLength (length_form (length t.0)) k = rw t.2 f in
    ap (option_map length) (sized_makes text t.0 t.1) ∙ vector_has t.0 k n g (s ∙ ap (λ (x : ℕ). k + x) (sym t.2))

pub list_has : {A : Type 0} (s : A → Option (List ℕ)) (xs : List A) (body k n : ℕ) → HasLength (items s xs) body → HasLength (length_form body) k → n ≡ k + body → HasLength (list s xs) n
unfolding list
list_has s xs body k n e f g = sized_has (items s xs) body k n e f g

-- numbers of four bytes each
pub numbers_have : (xs : List ℕ) → ((i : ℕ) → get_or xs i 0 < 2 ^ 32) → HasLength (items (number w32) xs) (4 * length xs)
unfolding items
numbers_have [] h = refl
numbers_have (x ∷ xs) h = after_each (number w32 x) (items (number w32) xs) 4 (4 * length xs) _ (number_w32 x (h 0)) (numbers_have xs (λ i. h (suc i))) (omega arith)

pub unmerged_has : (xs : List ℕ) (k n : ℕ) → length xs ≤ 1048576 → ((i : ℕ) → get_or xs i 0 < 2 ^ 32) → HasLength (length_form (4 * length xs)) k → n ≡ k + 4 * length xs → HasLength (unmerged xs) n
unfolding unmerged
unmerged_has xs k n le h e s = rw (le-leb (length xs) 1048576 le) (list_has (number w32) xs (4 * length xs) k n (numbers_have xs h) e s)

pub parent_has : (x : ParentNode) (a b c n : ℕ)
    → HasLength (vector x.encryption_key) a → HasLength (vector x.parent_hash) b → HasLength (unmerged x.unmerged) c → n ≡ a + b + c → HasLength (parent x) n
unfolding parent
parent_has x a b c n pa pb pc s = after_each _ _ a (b + c) n pa (after_each _ _ b c _ pb pc refl) (omega arith)

pub context_has : (x : GroupContext) (a b c d n : ℕ)
    → x.version < 2 ^ 16 → x.cipher_suite < 2 ^ 16 → x.epoch < 2 ^ 64
    → HasLength (vector x.group_id) a → HasLength (vector x.tree_hash) b → HasLength (vector x.confirmed) c → HasLength (list extension x.extensions) d
    → n ≡ 12 + a + b + c + d → HasLength (group_context x) n
unfolding group_context
context_has x a b c d n v u t pa pb pc pd s =
    after_each _ _ 2 (2 + (a + (8 + (b + (c + d))))) n (number_w16 x.version v)
    (after_each _ _ 2 (a + (8 + (b + (c + d)))) _ (number_w16 x.cipher_suite u)
    (after_each _ _ a (8 + (b + (c + d))) _ pa
    (after_each _ _ 8 (b + (c + d)) _ (number_w64 x.epoch t) (after_each _ _ b (c + d) _ pb (after_each _ _ c d _ pc pd refl) refl) refl) refl) refl)
    (omega arith)

-- what ties a leaf to its place
pub suffix_free : (l : Lifetime) (group_id : List ℕ) (i : ℕ) → HasLength (tbs_suffix (KeyPackage l) group_id i) 0
unfolding tbs_suffix
suffix_free l group_id i = refl

suffix_number : (group_id : List ℕ) (i n : ℕ) → i < 2 ^ 32 → HasLength (vector group_id) n → HasLength (vector group_id ⊕ number w32 i) (n + 4)
suffix_number group_id i n lt e = after_each (vector group_id) (number w32 i) n 4 (n + 4) e (number_w32 i lt) refl

pub suffix_of_update : (group_id : List ℕ) (i n : ℕ) → i < 2 ^ 32 → HasLength (vector group_id) n → HasLength (tbs_suffix Update group_id i) (n + 4)
unfolding tbs_suffix
suffix_of_update group_id i n lt e = suffix_number group_id i n lt e

pub suffix_of_commit : (hash group_id : List ℕ) (i n : ℕ) → i < 2 ^ 32 → HasLength (vector group_id) n → HasLength (tbs_suffix (Commit hash) group_id i) (n + 4)
unfolding tbs_suffix
suffix_of_commit hash group_id i n lt e = suffix_number group_id i n lt e

pub tbs_has : (x : LeafNode) (group_id : List ℕ) (i a g n : ℕ) → HasLength (unsigned_leaf x) a → HasLength (tbs_suffix x.source group_id i) g → n ≡ a + g
    → HasLength (leaf_tbs x group_id i) n
unfolding leaf_tbs
tbs_has x group_id i a g n pa pg s = after_each (unsigned_leaf x) (tbs_suffix x.source group_id i) a g n pa pg s

pub prefix_1 : (n : ℕ) → n < 64 → HasLength (length_form n) 1
prefix_1 n lt = ap (option_map length) (form_1 n lt)

pub prefix_2 : (n : ℕ) → 64 ≤ n → n < 16384 → HasLength (length_form n) 2
prefix_2 n le lt = ap (option_map length) (form_2 n (n + 16384) le lt refl)

pub prefix_4 : (n : ℕ) → 16384 ≤ n → n < 1073741824 → HasLength (length_form n) 4
prefix_4 n le lt = ap (option_map length) (form_4 n (n + 2147483648) le lt refl)
