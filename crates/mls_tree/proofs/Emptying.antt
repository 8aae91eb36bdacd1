-- A change of a tree leaves the slots right that it does not empty.
use Rattle.std.proofs.Common.{◌≡◌, ◌≢◌, ℕ, zero, suc, ◌+◌, ◌*◌, ◌-◌, ◌<◌, ◌≤◌, List, [], ◌∷◌, ◌++◌, length, replicate, true, false, Option, Some, None, refl, sym, ap, ◌∙◌, subst, inl, inr, arith, length-set, nat_lt}
use Rattle.std.specs.Prelude.{slice_get, slice_set, is_some, option_map, option_and_then, ◌==◌, if◌then◌else◌, IsSome}
use Rattle.std.proofs.lemmas.Bool.{cases_lt, cases_order}
use Rattle.std.proofs.Math.ListN.{length-replicate}
use Rattle.std.proofs.lemmas.Option.{none-some}
use Rattle.mls_nodes.specs.declared.leaf.LeafNode.{LeafNode}
use Rattle.mls_nodes.specs.declared.parent.ParentNode.{ParentNode}
use Rattle.mls_tree.specs.Tree.{Tree, leaf, branch, height, leaf_count, IsPerfect, Subtree, subtree_at}
use Rattle.mls_tree.specs.TreeInternal.{leaves_at}
use Rattle.mls_tree.specs.TreeHash.{tree_hash}
use Rattle.mls_tree.specs.TreeOperations.{put_leaf, put_parent, change_above}
use Rattle.mls_tree.specs.Paths.{direct_path}
use Rattle.mls_tree.specs.HashCache.{empty_count, emptied, parents_from, hash_at, hash_in, AreAllFilled}
use Rattle.mls_tree.specs.HashCacheInternal.{AreSlots}
use Rattle.mls_tree.proofs.Choices.{below, from, here, before, after, same, other}
use Rattle.mls_tree.proofs.Trees.{leaf_count-perfect, leaf_count-positive, subtree_at-in_left, subtree_at-in_right, subtree_at-none}
use Rattle.mls_tree.proofs.Arrays.{slice_get-set_same, slice_get-set_other}
use Rattle.mls_tree.proofs.Kept.{leaf_count-put_leaf, leaf_count-put_parent, leaf_count-change_above}

-- ---- how many slots are empty

pub empty_count-low : (slots : List (Option (List ℕ))) → empty_count slots ≤ length slots
empty_count-low [] = omega arith
empty_count-low (None ∷ slots) = let a = empty_count-low slots in omega arith
empty_count-low (Some h ∷ slots) = let a = empty_count-low slots in omega arith

pub empty_count-fill : (slots : List (Option (List ℕ))) (n : ℕ) → empty_count (slots ++ replicate n None) ≡ empty_count slots + n
empty_count-fill [] zero = refl
empty_count-fill [] (suc n) = let a = empty_count-fill [] n in omega arith
empty_count-fill (None ∷ slots) n = let a = empty_count-fill slots n in omega arith
empty_count-fill (Some h ∷ slots) n = empty_count-fill slots n

-- ---- slots that are emptied

pub length-emptied : (slots : List (Option (List ℕ))) (ps : List ℕ) → length (emptied slots ps) ≡ length slots
length-emptied slots [] = refl
length-emptied slots (p ∷ ps) = length-emptied (slice_set slots p None) ps ∙ length-set slots p None

pub emptied-append : (slots : List (Option (List ℕ))) (ps qs : List ℕ) → emptied slots (ps ++ qs) ≡ emptied (emptied slots ps) qs
emptied-append slots [] qs = refl
emptied-append slots (p ∷ ps) qs = emptied-append (slice_set slots p None) ps qs

-- the node index is none of these
abbrev pub IsAway : ℕ → List ℕ → Type 0
IsAway p [] = Unit {0}
IsAway p (q ∷ qs) = (p ≡ q → ⊥) × IsAway p qs

pub IsAway-front : (p : ℕ) (ps qs : List ℕ) → IsAway p (ps ++ qs) → IsAway p ps
IsAway-front p [] qs w = tt
IsAway-front p (q ∷ ps) qs w = (w.0, IsAway-front p ps qs w.1)

pub IsAway-back : (p : ℕ) (ps qs : List ℕ) → IsAway p (ps ++ qs) → IsAway p qs
IsAway-back p [] qs w = w
IsAway-back p (q ∷ ps) qs w = IsAway-back p ps qs w.1

-- an emptied slot has no hash
cleared-empty : (slots : List (Option (List ℕ))) (p : ℕ) (h : List ℕ) → slice_get (slice_set slots p None) p ≡ Some (Some h) → ⊥
cleared-empty [] p h e = cc
cleared-empty (c ∷ slots) zero h e = cc
cleared-empty (c ∷ slots) (suc p) h e = cleared-empty slots p h e

-- a slot that still has a hash was not emptied
pub record WasKept (slots : List (Option (List ℕ))) (ps : List ℕ) (p : ℕ) (h : List ℕ) : Type 0 where
  pub former : slice_get slots p ≡ Some (Some h)
  pub away : IsAway p ps

pub emptied-filled : (slots : List (Option (List ℕ))) (ps : List ℕ) (p : ℕ) (h : List ℕ) → slice_get (emptied slots ps) p ≡ Some (Some h) → WasKept slots ps p h
emptied-filled slots [] p h e = record { former = e; away = tt }
emptied-filled slots (q ∷ ps) p h e =
    let w = emptied-filled (slice_set slots q None) ps p h e in
    let d : p ≡ q → ⊥ = λ s. cleared-empty slots p h (subst (λ k. slice_get (slice_set slots k None) p ≡ Some (Some h)) (sym s) w.former) in
    record { former = sym (slice_get-set_other slots q p None d) ∙ w.former; away = (d, w.away) }

-- ---- subtrees away from a leaf and the parents above it

module _ (first p : ℕ) (l : Tree) (n m : Option ParentNode) (r : Tree) where
  -- the left subtree is another one
  pub in_left : (v : Tree) → leaf_count v ≡ leaf_count l → (p ≡ 2 * (first + leaf_count l) - 1 → ⊥) → subtree_at first v p ≡ subtree_at first l p
      → subtree_at first (branch v m r) p ≡ subtree_at first (branch l n r) p
  in_left v c away e =
      let pos = leaf_count-positive l in
      elim (cases_order (p + 1) (2 * (first + leaf_count l))) [
        | inl at ↦ absurd (away (omega arith))
        | inr (inl lt) ↦ subtree_at-in_left first v m r p (omega arith) ∙ e ∙ sym (subtree_at-in_left first l n r p lt)
        | inr (inr gt) ↦
            subtree_at-in_right first v m r p (omega arith) ∙ ap (λ k. subtree_at (first + k) r p) c ∙ sym (subtree_at-in_right first l n r p gt)
      ]

  -- the right subtree is another one
  in_right : (v : Tree) → (p ≡ 2 * (first + leaf_count l) - 1 → ⊥) → subtree_at (first + leaf_count l) v p ≡ subtree_at (first + leaf_count l) r p
      → subtree_at first (branch l m v) p ≡ subtree_at first (branch l n r) p
  in_right v away e =
      let pos = leaf_count-positive l in
      elim (cases_order (p + 1) (2 * (first + leaf_count l))) [
        | inl at ↦ absurd (away (omega arith))
        | inr (inl lt) ↦ subtree_at-in_left first l m v p lt ∙ sym (subtree_at-in_left first l n r p lt)
        | inr (inr gt) ↦ subtree_at-in_right first l m v p gt ∙ e ∙ sym (subtree_at-in_right first l n r p gt)
      ]

-- the direct path below the root
abbrev pub if_path : ℕ → Tree → Tree → ℕ → List ℕ
if_path first l r i = if nat_lt i (first + leaf_count l) then direct_path first l i else direct_path (first + leaf_count l) r i

pub beside-put_leaf : (first : ℕ) (t : Tree) (i : ℕ) (x : Option LeafNode) (p : ℕ) → first ≤ i → i < first + leaf_count t → (p ≡ 2 * i → ⊥) → IsAway p (direct_path first t i)
    → subtree_at first (put_leaf first t i x) p ≡ subtree_at first t p
beside-put_leaf first (leaf y) i x p a b d w =
    let out : p ≡ 2 * first → ⊥ = λ e. d (omega arith) in
    other p (2 * first) (Some (record { first = first; tree = leaf x })) None out ∙ sym (other p (2 * first) (Some (record { first = first; tree = leaf y })) None out)
beside-put_leaf first (branch l n r) i x p a b d w =
    let m = first + leaf_count l in
    let root = (IsAway-back p (if_path first l r i) ((2 * m - 1) ∷ []) w).0 in
    let front = IsAway-front p (if_path first l r i) ((2 * m - 1) ∷ []) w in
    elim (cases_lt i m) [
      | inl lt ↦
          ap (λ t. subtree_at first t p) (below i m (branch (put_leaf first l i x) n r) (branch l n (put_leaf m r i x)) lt)
          ∙ in_left first p l n n r (put_leaf first l i x) (leaf_count-put_leaf first l i x) root
          (beside-put_leaf first l i x p a lt d (subst (IsAway p) (below i m (direct_path first l i) (direct_path m r i) lt) front))
      | inr ge ↦
          ap (λ t. subtree_at first t p) (from i m (branch (put_leaf first l i x) n r) (branch l n (put_leaf m r i x)) ge)
          ∙ in_right first p l n n r (put_leaf m r i x) root
          (beside-put_leaf m r i x p ge (omega arith) d (subst (IsAway p) (from i m (direct_path first l i) (direct_path m r i) ge) front))
    ]

pub beside-change_above : (f : Option ParentNode → Option ParentNode) (first : ℕ) (t : Tree) (i p : ℕ) → IsAway p (direct_path first t i)
    → subtree_at first (change_above f first t i) p ≡ subtree_at first t p
beside-change_above f first (leaf y) i p w = refl
beside-change_above f first (branch l n r) i p w =
    let m = first + leaf_count l in
    let root = (IsAway-back p (if_path first l r i) ((2 * m - 1) ∷ []) w).0 in
    let front = IsAway-front p (if_path first l r i) ((2 * m - 1) ∷ []) w in
    elim (cases_lt i m) [
      | inl lt ↦
          ap (λ t. subtree_at first t p) (below i m (branch (change_above f first l i) (f n) r) (branch l (f n) (change_above f m r i)) lt)
          ∙ in_left first p l n (f n) r (change_above f first l i) (leaf_count-change_above f first l i) root
          (beside-change_above f first l i p (subst (IsAway p) (below i m (direct_path first l i) (direct_path m r i) lt) front))
      | inr ge ↦
          ap (λ t. subtree_at first t p) (from i m (branch (change_above f first l i) (f n) r) (branch l (f n) (change_above f m r i)) ge)
          ∙ in_right first p l n (f n) r (change_above f m r i) root
          (beside-change_above f m r i p (subst (IsAway p) (from i m (direct_path first l i) (direct_path m r i) ge) front))
    ]

-- the parents from a node index up, below the root
abbrev from_path : ℕ → Tree → Tree → ℕ → List ℕ
from_path first l r q =
    if q + 1 == 2 * (first + leaf_count l)
    then []
    else (if nat_lt (q + 1) (2 * (first + leaf_count l)) then parents_from first l q else parents_from (first + leaf_count l) r q)

pub beside-put_parent : (first : ℕ) (t : Tree) (q : ℕ) (x : Option ParentNode) (p : ℕ) → IsAway p (parents_from first t q)
    → subtree_at first (put_parent first t q x) p ≡ subtree_at first t p
beside-put_parent first (leaf y) q x p w = refl
beside-put_parent first (branch l n r) q x p w =
    let m = first + leaf_count l in
    let root = (IsAway-back p (from_path first l r q) ((2 * m - 1) ∷ []) w).0 in
    let front = IsAway-front p (from_path first l r q) ((2 * m - 1) ∷ []) w in
    let on_left = branch (put_parent first l q x) n r in
    let on_right = branch l n (put_parent m r q x) in
    elim (cases_order (q + 1) (2 * m)) [
      | inl at ↦
          ap (λ t. subtree_at first t p) (here (q + 1) (2 * m) (branch l x r) on_left on_right at) ∙ in_left first p l n x r l refl root refl
      | inr (inl lt) ↦
          ap (λ t. subtree_at first t p) (before (q + 1) (2 * m) (branch l x r) on_left on_right lt)
          ∙ in_left first p l n n r (put_parent first l q x) (leaf_count-put_parent first l q x) root
          (beside-put_parent first l q x p (subst (IsAway p) (before (q + 1) (2 * m) [] (parents_from first l q) (parents_from m r q) lt) front))
      | inr (inr gt) ↦
          ap (λ t. subtree_at first t p) (after (q + 1) (2 * m) (branch l x r) on_left on_right gt)
          ∙ in_right first p l n n r (put_parent m r q x) root
          (beside-put_parent m r q x p (subst (IsAway p) (after (q + 1) (2 * m) [] (parents_from first l q) (parents_from m r q) gt) front))
    ]

-- ---- slots remain right

-- if the slots at which the trees differ are emptied
pub AreSlots-emptied : (H : List ℕ → List ℕ) (t u : Tree) (slots new : List (Option (List ℕ))) (ps : List ℕ) → new ≡ emptied slots ps → leaf_count u ≡ leaf_count t
    → ((p : ℕ) → IsAway p ps → subtree_at 0 u p ≡ subtree_at 0 t p) → AreSlots H t slots → AreSlots H u new
AreSlots-emptied H t u slots new ps e c same ok = record {
  count = omega (arith, ap length e, length-emptied slots ps, ok.count);
  each = λ p h at.
      let w = emptied-filled slots ps p h (ap (λ cs. slice_get cs p) (sym e) ∙ at) in
      ap (option_and_then (λ (s : Subtree). tree_hash H s.first s.tree)) (same p w.away) ∙ ok.each p h w.former;
}

-- ---- one step of the walk down a path

module _ (first half level i : ℕ) (deep : level ≢ 0) (e : half ≡ leaves_at (level - 1)) (old mid new : List (Option (List ℕ))) where
  pub emptied-left : i < first + half → ((t : Tree) → IsPerfect t → height t ≡ level - 1 → mid ≡ emptied old (direct_path first t i)) → new ≡ slice_set mid (2 * (first + half) - 1) None
      → (t : Tree) → IsPerfect t → height t ≡ level → new ≡ emptied old (direct_path first t i)
  emptied-left lt ih at (leaf _) p h = absurd (deep (sym h))
  emptied-left lt ih at (branch l n r) p h =
      let k : height l ≡ level - 1 = omega arith in
      let c : half ≡ leaf_count l = e ∙ ap leaves_at (sym k) ∙ sym (leaf_count-perfect l p.1) in
      at ∙ (λ j. slice_set (ih l p.1 k j) (2 * (first + c j) - 1) None)
      ∙ sym (emptied-append old (direct_path first l i) ((2 * (first + leaf_count l) - 1) ∷ []))
      ∙ ap (λ ps. emptied old (ps ++ (2 * (first + leaf_count l) - 1) ∷ [])) (sym (below i (first + leaf_count l) (direct_path first l i) (direct_path (first + leaf_count l) r i) (omega arith)))

  pub emptied-right : first + half ≤ i → ((t : Tree) → IsPerfect t → height t ≡ level - 1 → mid ≡ emptied old (direct_path (first + half) t i)) → new ≡ slice_set mid (2 * (first + half) - 1) None
      → (t : Tree) → IsPerfect t → height t ≡ level → new ≡ emptied old (direct_path first t i)
  emptied-right ge ih at (leaf _) p h = absurd (deep (sym h))
  emptied-right ge ih at (branch l n r) p h =
      let k : height l ≡ level - 1 = omega arith in
      let c : half ≡ leaf_count l = e ∙ ap leaves_at (sym k) ∙ sym (leaf_count-perfect l p.1) in
      at ∙ (λ j. slice_set (ih r p.2 (sym p.0 ∙ k) j) (2 * (first + c j) - 1) None)
      ∙ ap (λ v. slice_set (emptied old (direct_path (first + v) r i)) (2 * (first + leaf_count l) - 1) None) c
      ∙ sym (emptied-append old (direct_path (first + leaf_count l) r i) ((2 * (first + leaf_count l) - 1) ∷ []))
      ∙ ap (λ ps. emptied old (ps ++ (2 * (first + leaf_count l) - 1) ∷ [])) (sym (from i (first + leaf_count l) (direct_path first l i) (direct_path (first + leaf_count l) r i) (omega arith)))

-- ---- one step of the walk down to a node index

module _ (first half level q : ℕ) (deep : level ≢ 0) (e : half ≡ leaves_at (level - 1)) (old mid new : List (Option (List ℕ))) where
  pub cleared-here : q + 1 ≡ 2 * (first + half) → new ≡ slice_set old (2 * (first + half) - 1) None
      → (t : Tree) → IsPerfect t → height t ≡ level → new ≡ emptied old (parents_from first t q)
  cleared-here eq at (leaf _) p h = absurd (deep (sym h))
  cleared-here eq at (branch l n r) p h =
      let k : height l ≡ level - 1 = omega arith in
      let c : half ≡ leaf_count l = e ∙ ap leaves_at (sym k) ∙ sym (leaf_count-perfect l p.1) in
      let m = first + leaf_count l in
      at ∙ ap (λ v. slice_set old (2 * (first + v) - 1) None) c
      ∙ ap (λ ps. emptied old (ps ++ (2 * m - 1) ∷ [])) (sym (here (q + 1) (2 * m) [] (parents_from first l q) (parents_from m r q) (omega arith)))

  pub cleared-left : q + 1 < 2 * (first + half) → ((t : Tree) → IsPerfect t → height t ≡ level - 1 → mid ≡ emptied old (parents_from first t q)) → new ≡ slice_set mid (2 * (first + half) - 1) None
      → (t : Tree) → IsPerfect t → height t ≡ level → new ≡ emptied old (parents_from first t q)
  cleared-left lt ih at (leaf _) p h = absurd (deep (sym h))
  cleared-left lt ih at (branch l n r) p h =
      let k : height l ≡ level - 1 = omega arith in
      let c : half ≡ leaf_count l = e ∙ ap leaves_at (sym k) ∙ sym (leaf_count-perfect l p.1) in
      let m = first + leaf_count l in
      at ∙ (λ j. slice_set (ih l p.1 k j) (2 * (first + c j) - 1) None)
      ∙ sym (emptied-append old (parents_from first l q) ((2 * m - 1) ∷ []))
      ∙ ap (λ ps. emptied old (ps ++ (2 * m - 1) ∷ [])) (sym (before (q + 1) (2 * m) [] (parents_from first l q) (parents_from m r q) (omega arith)))

  pub cleared-right : 2 * (first + half) < q + 1 → ((t : Tree) → IsPerfect t → height t ≡ level - 1 → mid ≡ emptied old (parents_from (first + half) t q)) → new ≡ slice_set mid (2 * (first + half) - 1) None
      → (t : Tree) → IsPerfect t → height t ≡ level → new ≡ emptied old (parents_from first t q)
  cleared-right gt ih at (leaf _) p h = absurd (deep (sym h))
  cleared-right gt ih at (branch l n r) p h =
      let k : height l ≡ level - 1 = omega arith in
      let c : half ≡ leaf_count l = e ∙ ap leaves_at (sym k) ∙ sym (leaf_count-perfect l p.1) in
      let m = first + leaf_count l in
      at ∙ (λ j. slice_set (ih r p.2 (sym p.0 ∙ k) j) (2 * (first + c j) - 1) None)
      ∙ ap (λ v. slice_set (emptied old (parents_from (first + v) r q)) (2 * m - 1) None) c
      ∙ sym (emptied-append old (parents_from m r q) ((2 * m - 1) ∷ []))
      ∙ ap (λ ps. emptied old (ps ++ (2 * m - 1) ∷ [])) (sym (after (q + 1) (2 * m) [] (parents_from first l q) (parents_from m r q) (omega arith)))

pub cleared-none : (first q level : ℕ) (old : List (Option (List ℕ))) → level ≡ 0 → (t : Tree) → IsPerfect t → height t ≡ level → old ≡ emptied old (parents_from first t q)
cleared-none first q level old z (leaf _) p h = refl
cleared-none first q level old z (branch l n r) p h = absurd (omega arith)

pub emptied-none : (first i level : ℕ) (old : List (Option (List ℕ))) → level ≡ 0 → (t : Tree) → IsPerfect t → height t ≡ level → old ≡ emptied old (direct_path first t i)
emptied-none first i level old z (leaf _) p h = refl
emptied-none first i level old z (branch l n r) p h = absurd (omega arith)

-- if there are no slots, none is emptied
pub emptied-nothing : (ps : List ℕ) → emptied [] ps ≡ []
emptied-nothing [] = refl
emptied-nothing (p ∷ ps) = emptied-nothing ps

pub nothing-emptied : (slots : List (Option (List ℕ))) (ps : List ℕ) → slots ≡ [] → slots ≡ emptied slots ps
nothing-emptied slots ps none = none ∙ sym (ap (λ cs. emptied cs ps) none ∙ emptied-nothing ps)

-- a filled slot that is emptied is counted
pub cleared-filled : (slots : List (Option (List ℕ))) (p : ℕ) → Some true ≡ option_map is_some (slice_get slots p) → empty_count (slice_set slots p None) ≡ empty_count slots + 1
cleared-filled [] p e = absurd (cc)
cleared-filled (None ∷ slots) zero e = absurd (cc)
cleared-filled (Some g ∷ slots) zero e = omega arith
cleared-filled (None ∷ slots) (suc p) e = let a = cleared-filled slots p e in omega arith
cleared-filled (Some g ∷ slots) (suc p) e = cleared-filled slots p e

-- an empty one was counted
pub cleared-blank : (slots : List (Option (List ℕ))) (p : ℕ) → Some false ≡ option_map is_some (slice_get slots p) → empty_count (slice_set slots p None) ≡ empty_count slots
cleared-blank [] p e = absurd (cc)
cleared-blank (None ∷ slots) zero e = refl
cleared-blank (Some g ∷ slots) zero e = absurd (cc)
cleared-blank (None ∷ slots) (suc p) e = ap (λ n. suc n) (cleared-blank slots p e)
cleared-blank (Some g ∷ slots) (suc p) e = cleared-blank slots p e

-- ---- a slot is filled

-- an empty slot that is filled is counted no more
pub put-empty : (slots : List (Option (List ℕ))) (p : ℕ) (h : List ℕ) → Some false ≡ option_map is_some (slice_get slots p) → empty_count slots ≡ empty_count (slice_set slots p (Some h)) + 1
put-empty [] p h e = absurd (cc)
put-empty (None ∷ slots) zero h e = omega arith
put-empty (Some g ∷ slots) zero h e = absurd (cc)
put-empty (None ∷ slots) (suc p) h e = let a = put-empty slots p h e in omega arith
put-empty (Some g ∷ slots) (suc p) h e = put-empty slots p h e

-- a filled one was not
pub put-filled : (slots : List (Option (List ℕ))) (p : ℕ) (h : List ℕ) → Some true ≡ option_map is_some (slice_get slots p) → empty_count (slice_set slots p (Some h)) ≡ empty_count slots
put-filled [] p h e = absurd (cc)
put-filled (None ∷ slots) zero h e = absurd (cc)
put-filled (Some f ∷ slots) zero h e = refl
put-filled (None ∷ slots) (suc p) h e = ap (λ n. suc n) (put-filled slots p h e)
put-filled (Some f ∷ slots) (suc p) h e = put-filled slots p h e

-- the slots remain right if a right hash is put into one
pub AreSlots-filled : (H : List ℕ → List ℕ) (t : Tree) (slots new : List (Option (List ℕ))) (p : ℕ) (h : List ℕ) → new ≡ slice_set slots p (Some h) → hash_at H t p ≡ Some h
    → AreSlots H t slots → AreSlots H t new
AreSlots-filled H t slots new p h e right ok = record {
  count = omega (arith, ap length e, length-set slots p (Some h), ok.count);
  each = λ q g at.
      let read : slice_get (slice_set slots p (Some h)) q ≡ Some (Some g) = ap (λ cs. slice_get cs q) (sym e) ∙ at in
      elim (cases_order q p) [
        | inl same ↦
            (let there = set-there slots p h g (ap (λ k. slice_get (slice_set slots p (Some h)) k) (sym same) ∙ read) in
            ap (hash_at H t) same ∙ right ∙ ap (λ (v : List ℕ). Some v) there)
        | inr (inl lt) ↦ ok.each q g (sym (slice_get-set_other slots p q (Some h) (λ s. omega arith)) ∙ read)
        | inr (inr gt) ↦ ok.each q g (sym (slice_get-set_other slots p q (Some h) (λ s. omega arith)) ∙ read)
      ];
}
  where
    set-there : (slots : List (Option (List ℕ))) (p : ℕ) (h g : List ℕ) → slice_get (slice_set slots p (Some h)) p ≡ Some (Some g) → h ≡ g
    set-there [] p h g e = absurd (cc)
    set-there (c ∷ slots) zero h g e = cc
    set-there (c ∷ slots) (suc p) h g e = set-there slots p h g e

-- a node index that has a hash is one of the tree's
pub hash_at-inside : (H : List ℕ → List ℕ) (t : Tree) (p : ℕ) (h : List ℕ) → hash_at H t p ≡ Some h → p + 1 < 2 * leaf_count t
hash_at-inside H t p h e =
    elim (cases_lt (p + 1) (2 * leaf_count t)) [
      | inl lt ↦ lt
      | inr ge ↦ absurd (none-some h (sym (ap (option_and_then (λ (s : Subtree). tree_hash H s.first s.tree)) (subtree_at-none 0 t p (omega arith))) ∙ e))
    ]

-- ---- slots that are all empty

pub empty_count-fresh : (n : ℕ) → empty_count (replicate n None) ≡ n
empty_count-fresh zero = refl
empty_count-fresh (suc n) = ap (λ k. suc k) (empty_count-fresh n)

fresh-empty : (n p : ℕ) (h : List ℕ) → slice_get (replicate n (let slot : Option (List ℕ) = None in slot)) p ≡ Some (Some h) → ⊥
fresh-empty zero p h e = cc
fresh-empty (suc n) zero h e = cc
fresh-empty (suc n) (suc p) h e = fresh-empty n p h e

pub AreSlots-fresh : (H : List ℕ → List ℕ) (t : Tree) (slots : List (Option (List ℕ))) (n : ℕ) → slots ≡ replicate n None → n + 1 ≡ 2 * leaf_count t → AreSlots H t slots
AreSlots-fresh H t slots n e long = record {
  count = omega (arith, ap length e, length-replicate n (let slot : Option (List ℕ) = None in slot), long);
  each = λ p h at. absurd (fresh-empty n p h (ap (λ cs. slice_get cs p) (sym e) ∙ at));
}

-- a filled slot, by the list
pub filled-there : (slots new : List (Option (List ℕ))) (p : ℕ) (h : List ℕ) → new ≡ slice_set slots p (Some h) → p < length slots → hash_in (slice_get new p) ≡ Some h
filled-there slots new p h e lt = ap (λ cs. hash_in (slice_get cs p)) e ∙ ap hash_in (slice_get-set_same slots p (Some h) lt)

-- ---- slots that are all filled

pub all_filled : (slots : List (Option (List ℕ))) → ((p : ℕ) → p < length slots → IsSome (hash_in (slice_get slots p))) → empty_count slots ≡ 0
all_filled [] h = refl
all_filled (None ∷ slots) h = absurd (let w = h 0 (omega arith) in cc)
all_filled (Some g ∷ slots) h = all_filled slots (λ p lt. h (suc p) (omega arith))

pub all_counted : (H : List ℕ → List ℕ) (t : Tree) (slots : List (Option (List ℕ))) (n : ℕ) → n ≡ empty_count slots → AreSlots H t slots → AreAllFilled t slots → n ≡ 0
all_counted H t slots n e ok all = e ∙ all_filled slots (λ p lt. all p (omega (arith, ok.count)))

none_empty : (slots : List (Option (List ℕ))) → empty_count slots ≡ 0 → (p : ℕ) → p < length slots → IsSome (hash_in (slice_get slots p))
none_empty [] e p lt = absurd (omega arith)
none_empty (None ∷ slots) e p lt = absurd (omega arith)
none_empty (Some g ∷ slots) e zero lt = refl
none_empty (Some g ∷ slots) e (suc p) lt = none_empty slots e p (omega arith)

pub counted_all : (H : List ℕ → List ℕ) (t : Tree) (slots : List (Option (List ℕ))) (n : ℕ) → n ≡ empty_count slots → n ≡ 0 → AreSlots H t slots → AreAllFilled t slots
counted_all H t slots n e nothing ok p lt = none_empty slots (sym e ∙ nothing) p (omega (arith, ok.count))
