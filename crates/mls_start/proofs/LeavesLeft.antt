-- Signatures that are made one at a time.
use Rattle.std.proofs.Common.{◌≡◌, ◌∙◌, ℕ, zero, suc, ◌+◌, ◌-◌, ◌≤◌, ◌<◌, List, [], ◌∷◌, ◌++◌, length, length-drop, Option, Some, None, refl, sym, ap, arith, length-append}
use Rattle.std.specs.Prelude.{slice_get, slice_index_or, remove, drop}
use Rattle.std.specs.Option.{option_to_list}
use Rattle.std.proofs.lemmas.List.{drop_all}
use Rattle.std.proofs.lemmas.Option.{same_Some}
use Rattle.mls_tree.proofs.Arrays.{slice_get-drop_at}
use Rattle.mls_nodes.specs.LeafNodeTBS.{leaf_tbs}
use Rattle.mls_nodes.specs.declared.leaf.LeafNode.{LeafNode}
use Rattle.mls_tree.specs.Tree.{leaf_count, leaf_at}
use Rattle.mls_check.specs.Signatures.{sign_content}
use Rattle.mls_signatures.specs.SignaturesToVerify.{sign_content_signatures, labeled_signatures, non_blank_leaf_signatures}
use Rattle.mls_signatures.proofs.LeafLists.{joined, joined-both, of_leaf_in, tree-joined}
use Rattle.mls_signatures.specs.declared.signature_to_verify.SignatureToVerify.{SignatureToVerify}
use Rattle.mls_follow.specs.MessageSignatures.{state_signatures}
use Rattle.mls_follow.specs.State.{State}
use Rattle.mls_start.specs.SignaturesLeft.{signatures_of_leaf, signatures_of_leaves}

-- leaf by leaf, from the first on or up to the last
leaves-joined : (s : State) (count n : ℕ) → signatures_of_leaves count s n ≡ joined (of_leaf_in s.context.cipher_suite s.context.group_id 0 s.tree) n count
leaves-joined s zero n = refl
leaves-joined s (suc count) n =
    let f = of_leaf_in s.context.cipher_suite s.context.group_id 0 s.tree in
    let at : n + 0 ≡ n = omega arith in
    let more : suc count ≡ 1 + count = omega arith in
    (λ i. f (sym at i) ++ leaves-joined s count (n + 1) i)
    ∙ sym (joined-both f n 1 count)
    ∙ ap (joined f n) (sym more)

leaves-all : (s : State) → signatures_of_leaves (leaf_count s.tree) s 0 ≡ state_signatures s
leaves-all s = leaves-joined s (leaf_count s.tree) 0 ∙ sym (tree-joined s.context.cipher_suite s.context.group_id 0 s.tree)

pub leaves-first : (s : State) → signatures_of_leaves (leaf_count s.tree - 0) s 0 ≡ state_signatures s
leaves-first s =
    let count : leaf_count s.tree - 0 ≡ leaf_count s.tree = omega arith in
    ap (λ (k : ℕ). signatures_of_leaves k s 0) count ∙ leaves-all s

-- the next leaf, and those after it
pub leaves-next : (s : State) (leaves n : ℕ) → n < leaves
    → signatures_of_leaves (leaves - n) s n ≡ signatures_of_leaf s n ++ signatures_of_leaves (leaves - (n + 1)) s (n + 1)
leaves-next s leaves n lt =
    let count : leaves - n ≡ suc (leaves - (n + 1)) = omega (arith, lt) in
    ap (λ (k : ℕ). signatures_of_leaves k s n) count

pub leaves-none : (s : State) (leaves n : ℕ) → leaves ≤ n → signatures_of_leaves (leaves - n) s n ≡ []
leaves-none s leaves n le =
    let count : leaves - n ≡ 0 = omega (arith, le) in
    ap (λ (k : ℕ). signatures_of_leaves k s n) count

-- ---- at most one each

content-most : (suite : ℕ) (key signature : List ℕ) (content : Option (List ℕ)) → length (sign_content_signatures suite key signature content) ≤ 1
content-most suite key signature None = omega arith
content-most suite key signature (Some content) = omega arith

labeled-most : (suite : ℕ) (key label : List ℕ) (tbs : Option (List ℕ)) (signature : List ℕ) → length (labeled_signatures suite key label tbs signature) ≤ 1
labeled-most suite key label None signature = omega arith
labeled-most suite key label (Some tbs) signature = content-most suite key signature (sign_content label tbs)

node-most : (suite : ℕ) (group_id : List ℕ) (i : ℕ) (x : Option LeafNode) → length (non_blank_leaf_signatures suite group_id i x) ≤ 1
node-most suite group_id i None = omega arith
node-most suite group_id i (Some x) = labeled-most suite x.signature_key _ (leaf_tbs x group_id i) x.signature

leaf-most : (s : State) (n : ℕ) → length (signatures_of_leaf s n) ≤ 1
leaf-most s n = node-most s.context.cipher_suite s.context.group_id n (leaf_at 0 s.tree n)

pub leaves-most : (s : State) (count n : ℕ) → length (signatures_of_leaves count s n) ≤ count
leaves-most s zero n = omega arith
leaves-most s (suc count) n =
    let both = length-append (signatures_of_leaf s n) (signatures_of_leaves count s (n + 1)) in
    let here = leaf-most s n in
    let rest = leaves-most s count (n + 1) in
    omega (arith, both, here, rest)

-- ---- what is made

-- a leaf's are made once nothing else is left that is made
pub leaf_made : (s : State) (made : List SignatureToVerify) (leaves n : ℕ) → made ≡ [] → n < leaves
    → signatures_of_leaf s n ++ signatures_of_leaves (leaves - (n + 1)) s (n + 1) ≡ made ++ signatures_of_leaves (leaves - n) s n
leaf_made s made leaves n none lt =
    sym (leaves-next s leaves n lt) ∙ ap (λ (ws : List SignatureToVerify). ws ++ signatures_of_leaves (leaves - n) s n) (sym none)

pub none_left : (s : State) (made : List SignatureToVerify) (leaves n : ℕ) → made ≡ [] → leaves ≤ n → made ++ signatures_of_leaves (leaves - n) s n ≡ []
none_left s made leaves n none le = ap (λ (ws : List SignatureToVerify). ws ++ signatures_of_leaves (leaves - n) s n) none ∙ leaves-none s leaves n le

pub nothing : {X : Type 0} (xs : List X) → length xs ≡ 0 → xs ≡ []
nothing [] e = refl
nothing (x ∷ xs) e = absurd (omega (arith, e))

pub first_made : {X : Type 0} (xs : List X) (x : X) → 0 < length xs → x ≡ slice_index_or xs 0 x → xs ≡ x ∷ remove xs 0
first_made [] x lt is = absurd (omega (arith, lt))
first_made (y ∷ ys) x lt is = ap (λ z. z ∷ ys) (sym is)

-- ---- a list

-- the next signature of a list, and those after it
pub drop_next : {X : Type 0} (xs : List X) (n : ℕ) (x : X) → n < length xs → slice_get xs n ≡ Some x → drop n xs ≡ option_to_list (Some x) ++ drop (n + 1) xs
drop_next xs n x lt is =
    let h = slice_get-drop_at xs n lt in
    h.2 ∙ ap (λ y. y ∷ drop (n + 1) xs) (same_Some h.0 x (sym h.1 ∙ is))

pub drop_none : {X : Type 0} (xs : List X) (n : ℕ) → length xs ≤ n → drop n xs ≡ []
drop_none xs n le = drop_all n xs le

pub drop_most : {X : Type 0} (xs : List X) (n : ℕ) → length (drop n xs) ≤ length xs
drop_most xs n = let len = length-drop n xs in omega (arith, len)

-- the signatures that are made, and those of the leaves
pub start_most : (s : State) (made : List SignatureToVerify) (leaves n : ℕ)
    → length (made ++ signatures_of_leaves (leaves - n) s n) ≤ length made + leaves
start_most s made leaves n =
    let both = length-append made (signatures_of_leaves (leaves - n) s n) in
    let rest = leaves-most s (leaves - n) n in
    omega (arith, both, rest)
