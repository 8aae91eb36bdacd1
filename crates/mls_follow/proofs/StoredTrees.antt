-- The tree of a stored body, and the body of a tree: each is one.
use Rattle.std.proofs.Common.{◌≡◌, ◌∙◌, ℕ, ◌≤◌, suc, ◌-◌, List, [], ◌∷◌, ◌++◌, length, map, replicate, Option, Some, None, refl, sym, ap, subst, arith, length-append}
use Rattle.std.proofs.lemmas.List.{length-map, length-replicate}
use Rattle.std.proofs.lemmas.Option.{same_Some}
use Rattle.mls_wire.specs.Encoding.{vector}
use Rattle.mls_wire.specs.ExactTheorems.{one_value}
use Rattle.mls_wire.specs.Parsing.{vector_at}
use Rattle.mls_wire.specs.VectorsExact.{vector_exact}
use Rattle.mls_nodes.proofs.Trimming.{ratchet_tree_unambiguous, tree_again_trimmed}
use Rattle.mls_nodes.specs.FilledTree.{length-filled}
use Rattle.mls_nodes.specs.NodeModel.{NodeValue}
use Rattle.mls_nodes.specs.RatchetTreeEncoding.{ratchet_tree, prepend_trimmed, trimmed, filled, full_size}
use Rattle.mls_tree.proofs.Descent.{leaf_count-limit}
use Rattle.mls_tree.proofs.SameListings.{RatchetTree-listing}
use Rattle.mls_tree.proofs.Trees.{length-listing}
use Rattle.mls_tree.specs.RatchetTree.{RatchetTree}
use Rattle.mls_tree.specs.Tree.{listing}
use Rattle.mls_tree.specs.TreeDecoding.{IsTreeOf}
use Rattle.mls_follow.specs.StoredState.{IsTreeBody}

-- ---- one tree

pub one_tree_of : (bytes : List ℕ) (t u : RatchetTree) → IsTreeOf bytes t → IsTreeOf bytes u → t ≡ u
one_tree_of bytes t u a b =
    let same : a.nodes ≡ b.nodes = ratchet_tree_unambiguous.once a.nodes b.nodes bytes a.is_tree.encoded b.is_tree.encoded in
    RatchetTree-listing t u (a.full ∙ ap filled same ∙ sym b.full)

pub one_tree : (body : List ℕ) (t u : RatchetTree) → IsTreeBody body t → IsTreeBody body u → t ≡ u
one_tree body t u a b =
    let same : a.bytes ≡ b.bytes = same_Some a.bytes b.bytes (sym a.encoded ∙ b.encoded) in
    one_tree_of b.bytes t u (subst (λ (bytes : List ℕ). IsTreeOf bytes t) same a.tree) b.tree

-- ---- one body

-- the nodes of a tree are those of its encoding
nodes_of : (bytes : List ℕ) (t : RatchetTree) (h : IsTreeOf bytes t) → trimmed (listing t.tree) ≡ h.nodes
nodes_of bytes t h = ap trimmed h.full ∙ tree_again_trimmed h.nodes bytes h.is_tree.encoded

pub encoded_tree : (bytes : List ℕ) (t : RatchetTree) → IsTreeOf bytes t → ratchet_tree (trimmed (listing t.tree)) ≡ Some bytes
encoded_tree bytes t h = ap ratchet_tree (nodes_of bytes t h) ∙ h.is_tree.encoded

pub one_encoding : (a b : List ℕ) (t : RatchetTree) → IsTreeOf a t → IsTreeOf b t → a ≡ b
one_encoding a b t p q = same_Some a b (sym (encoded_tree a t p) ∙ encoded_tree b t q)

pub one_body : (a b : List ℕ) (t : RatchetTree) → IsTreeBody a t → IsTreeBody b t → a ≡ b
one_body a b t p q =
    let same : p.bytes ≡ q.bytes = one_encoding p.bytes q.bytes t p.tree q.tree in
    one_value vector vector_at vector_exact a b q.bytes (p.encoded ∙ ap Some same) q.encoded

-- ---- a tree that is decoded from its own entries

before_short : (x : Option NodeValue) (ys : List (Option NodeValue)) (n : ℕ)
    → (k : ℕ) × (x ∷ ys ++ replicate n None ≡ prepend_trimmed x ys ++ replicate k None)
before_short (Some v) ys n = (n, refl)
before_short None [] n = (suc n, refl)
before_short None (y ∷ ys) n = (n, refl)

-- entries are those up to the last one that is set, and blank ones
trimmed-back : (xs : List (Option NodeValue)) → (k : ℕ) × (xs ≡ trimmed xs ++ replicate k None)
trimmed-back [] = (0, refl)
trimmed-back (x ∷ xs) =
    let rest = trimmed-back xs in
    let here = before_short x (trimmed xs) rest.0 in
    (here.0, ap (λ (ys : List (Option NodeValue)). x ∷ ys) rest.1 ∙ here.1)

-- lists that begin alike, with blanks behind, are equal where they are as long
same_long : (front xs ys : List (Option NodeValue)) (j k : ℕ) → xs ≡ front ++ replicate j None → ys ≡ front ++ replicate k None → length xs ≡ length ys → xs ≡ ys
same_long front xs ys j k p q same =
    let m : j ≡ k = omega (arith, ap length p, ap length q, length-append front (replicate {A = Option NodeValue} j None), length-append front (replicate {A = Option NodeValue} k None), length-replicate {A = Option NodeValue} j None, length-replicate {A = Option NodeValue} k None, same) in
    p ∙ ap (λ (n : ℕ). front ++ replicate n None) m ∙ sym q

-- a tree has no more entries than one of the most leaves
pub trimmed-fits : (t : RatchetTree) → length (trimmed (listing t.tree)) ≤ 2097151
trimmed-fits t =
    let back = trimmed-back (listing t.tree) in
    omega (arith, length-listing t.tree, leaf_count-limit t, ap length back.1, length-append (trimmed (listing t.tree)) (replicate {A = Option NodeValue} back.0 None))

-- entries that the least full tree fills
pub filled-trimmed : (xs : List (Option NodeValue)) → full_size (length (trimmed xs)) ≡ length xs → xs ≡ filled (trimmed xs)
filled-trimmed xs e =
    let back = trimmed-back xs in
    same_long (trimmed xs) xs (filled (trimmed xs)) back.0 (full_size (length (trimmed xs)) - length (trimmed xs)) back.1 refl
    (sym (length-filled (trimmed xs) ∙ e))

-- the entries of an encoded tree fill it
pub filled-full : (bytes : List ℕ) (t : RatchetTree) → IsTreeOf bytes t → full_size (length (trimmed (listing t.tree))) ≡ length (listing t.tree)
filled-full bytes t h =
    ap (λ (xs : List (Option NodeValue)). full_size (length xs)) (nodes_of bytes t h) ∙ sym (length-filled h.nodes) ∙ ap length (sym h.full)

-- the numbers of entries up to the last non-blank one, and of all, by those of the nodes that have these values
pub stored_sizes : {A : Type 0} (value : A → Option NodeValue) (nodes short : List A) (t : RatchetTree) (size : ℕ) → map value nodes ≡ listing t.tree
    → map value short ≡ trimmed (map value nodes) → size ≡ full_size (length short)
    → (size ≡ full_size (length (trimmed (listing t.tree)))) × (length nodes ≡ length (listing t.tree))
stored_sizes value nodes short t size all front full = (
  full ∙ ap full_size (sym (length-map short value) ∙ ap length (front ∙ ap trimmed all)),
  sym (length-map nodes value) ∙ ap length all,
)
