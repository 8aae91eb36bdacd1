-- Classes of leaves in lists, and what a list comes to when replacements are undone.
use Rattle.std.proofs.Common.{◌≡◌, ◌∙◌, ℕ, zero, suc, ◌≤◌, List, [], ◌∷◌, ◌++◌, length, Option, Some, None, refl, sym, ap, subst, arith}
use Rattle.std.specs.Prelude.{slice_set}
use Rattle.std.proofs.lemmas.List.{get_or_past, set-set, set-get_or}
use Rattle.mls_nodes.specs.declared.leaf.LeafNode.{LeafNode}
use Rattle.mls_tree.specs.Tree.{Tree, leaf_count, leaf_at}
use Rattle.mls_check.proofs.Leaves.{leaf_at-low}
use Rattle.mls_index.specs.LeafCredentials.{LeafClass, blank_class, class_of, class_at, AreClassesOf, classes_before}

pub same_classes : (t : Tree) (xs ys : List LeafClass) → ys ≡ xs → AreClassesOf t xs → AreClassesOf t ys
same_classes t xs ys e h = subst (AreClassesOf t) (sym e) h

-- ---- replacements that are undone

pub classes_before-last : (es : List (ℕ × LeafClass)) (e : ℕ × LeafClass) (xs : List LeafClass) → classes_before (es ++ e ∷ []) xs ≡ classes_before es (slice_set xs e.0 e.1)
classes_before-last [] e xs = refl
classes_before-last (f ∷ es) e xs = ap (λ ys. slice_set ys f.0 f.1) (classes_before-last es e xs)

-- one more is made
pub replaced-back : (es fs : List (ℕ × LeafClass)) (xs ys : List LeafClass) (i : ℕ) (was now : LeafClass) → fs ≡ es ++ (i, was) ∷ [] → ys ≡ slice_set xs i now
    → was ≡ class_at xs i → classes_before fs ys ≡ classes_before es xs
replaced-back es fs xs ys i was now more set stood =
    ap (λ gs. classes_before gs ys) more ∙ classes_before-last es (i, was) ys ∙ ap (λ zs. classes_before es (slice_set zs i was)) set
    ∙ ap (classes_before es) (set-set xs i now was ∙ ap (slice_set xs i) stood ∙ set-get_or xs i blank_class)

-- the last is undone
pub back-last : (es fs : List (ℕ × LeafClass)) (xs ys : List LeafClass) (i : ℕ) (was : LeafClass) → es ≡ fs ++ (i, was) ∷ [] → ys ≡ slice_set xs i was
    → classes_before fs ys ≡ classes_before es xs
back-last es fs xs ys i was more set = ap (classes_before fs) set ∙ sym (classes_before-last fs (i, was) xs) ∙ ap (λ gs. classes_before gs xs) (sym more)

-- ---- the class at an index

pub blank-added : (xs : List LeafClass) (i : ℕ) → class_at (xs ++ blank_class ∷ []) i ≡ class_at xs i
blank-added [] zero = refl
blank-added [] (suc i) = refl
blank-added (x ∷ xs) zero = refl
blank-added (x ∷ xs) (suc i) = blank-added xs i

pub classes-blank : (t : Tree) (xs ys : List LeafClass) → ys ≡ xs ++ blank_class ∷ [] → AreClassesOf t xs → AreClassesOf t ys
classes-blank t xs ys e h = record { at = λ i. ap (λ zs. class_at zs i) e ∙ blank-added xs i ∙ h.at i }

-- no leaf stands beyond the last one
pub blank-beyond : (t : Tree) (i : ℕ) → leaf_count t ≤ i → leaf_at 0 t i ≡ None
blank-beyond t i high = beyond (leaf_at 0 t i) refl
  where
    beyond : (o : Option LeafNode) → leaf_at 0 t i ≡ o → leaf_at 0 t i ≡ None
    beyond None e = e
    beyond (Some x) e = absurd (let low = leaf_at-low 0 t i x e in omega (arith, low, high))

pub class-beyond : (xs : List LeafClass) (t : Tree) (i : ℕ) → leaf_count t ≤ length xs → length xs ≤ i → class_at xs i ≡ class_of (leaf_at 0 t i)
class-beyond xs t i capacity high =
    let far : leaf_count t ≤ i = omega (arith, capacity, high) in get_or_past xs i blank_class high ∙ sym (ap class_of (blank-beyond t i far))
