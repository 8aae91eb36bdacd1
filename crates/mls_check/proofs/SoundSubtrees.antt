-- Sound trees with reached parents, by their subtrees.
use Rattle.std.proofs.Common.{◌≡◌, ℕ, ◌+◌, IsTrue, List, Option, Some, None, refl, subst}
use Rattle.mls_tree.specs.Tree.{Tree, leaf, branch, leaf_count, Subtree, subtree_at, root_entry, entry_of}
use Rattle.mls_hash.specs.ParentHash.{root_parent}
use Rattle.mls_check.specs.ParentHashValid.{ParentHashValid, IsNonBlankParent}
use Rattle.mls_check.specs.UnmergedLists.{HasSortedList, is_consistent, HasStrictlyIncreasingLists, HasConsistentUnmerged}
use Rattle.mls_check.specs.UnmergedListsInternal.{HasSortedEntries}
use Rattle.mls_check.proofs.OwnLeaves.{own_leaf}
use Rattle.mls_check.specs.PreservedValidity.{IsParentHashValidTree}
use Rattle.mls_check.proofs.Everywhere.{Everywhere, everywhere-top, everywhere-at, everywhere-from, everywhere-more}
use Rattle.mls_check.proofs.Carrying.{HasOwnList}

-- what a sound tree of n leaves asks of each subtree
pub record IsSoundSubtree (H : List ℕ → List ℕ) (n : ℕ) (first : ℕ) (t : Tree) : Type 0 where
  pub sorted : HasSortedEntries (root_parent t)
  pub consistent : IsTrue (is_consistent first t)
  pub parent_hash : IsNonBlankParent t → ParentHashValid H n (record { first = first; tree = t })

abbrev pub HasSoundSubtrees : (List ℕ → List ℕ) → ℕ → ℕ → Tree → Type 0
HasSoundSubtrees H n = Everywhere (IsSoundSubtree H n)

-- in a tree with placed lists each list is its parent's own
pub own_lists : (t : Tree) → HasConsistentUnmerged t → Everywhere HasOwnList 0 t
own_lists t consistent = everywhere-from HasOwnList 0 t (λ p s e q set i c. own_leaf s.first s.tree q (consistent p s e) set i c)

-- ---- sorted lists

list-entries : (t : Tree) → HasSortedList (root_entry t) → HasSortedEntries (root_parent t)
list-entries (leaf x) h = tt
list-entries (branch l None r) h = tt
list-entries (branch l (Some p) r) h = h

entries-list : (t : Tree) → HasSortedEntries (root_parent t) → HasSortedList (root_entry t)
entries-list (leaf None) h = tt
entries-list (leaf (Some x)) h = tt
entries-list (branch l None r) h = tt
entries-list (branch l (Some p) r) h = h

pub sorted_in : (t : Tree) → HasStrictlyIncreasingLists t → Everywhere (λ first u. HasSortedEntries (root_parent u)) 0 t
sorted_in t h =
    everywhere-from (λ first u. HasSortedEntries (root_parent u)) 0 t
    (λ p s e. list-entries s.tree (subst (λ o. HasSortedList (entry_of o)) e (h p)))

pub sorted_from : (t : Tree) → Everywhere (λ first u. HasSortedEntries (root_parent u)) 0 t → HasStrictlyIncreasingLists t
sorted_from t h p =
    by_place (subtree_at 0 t p)
    (λ s e. everywhere-top (λ first u. HasSortedEntries (root_parent u)) s.first s.tree (everywhere-at (λ first u. HasSortedEntries (root_parent u)) 0 t p s e h))
  where
    by_place : (o : Option Subtree) → ((s : Subtree) → o ≡ Some s → HasSortedEntries (root_parent s.tree)) → HasSortedList (entry_of o)
    by_place None h = tt
    by_place (Some s) h = entries-list s.tree (h s refl)

-- ---- sound trees

module _ (H : List ℕ → List ℕ) where
  pub subtrees_from : (t : Tree) → IsParentHashValidTree H t → HasSoundSubtrees H (leaf_count t) 0 t
  subtrees_from t h =
      everywhere-from (IsSoundSubtree H (leaf_count t)) 0 t
      (λ p s e. record {
        sorted = list-entries s.tree (subst (λ o. HasSortedList (entry_of o)) e (h.sorted p));
        consistent = h.consistent p s e;
        parent_hash = h.parent_hashes p s e;
      })

  subtrees_sound : (t : Tree) → HasSoundSubtrees H (leaf_count t) 0 t → IsParentHashValidTree H t
  subtrees_sound t g =
      let at : (p : ℕ) (s : Subtree) → subtree_at 0 t p ≡ Some s → IsSoundSubtree H (leaf_count t) s.first s.tree
      = λ p s e. everywhere-top (IsSoundSubtree H (leaf_count t)) s.first s.tree (everywhere-at (IsSoundSubtree H (leaf_count t)) 0 t p s e g) in
      record {
        sorted = sorted_from t (everywhere-more (IsSoundSubtree H (leaf_count t)) (λ first u. HasSortedEntries (root_parent u)) (λ first u k. k.sorted) 0 t g);
        consistent = λ p s e. (at p s e).consistent;
        parent_hashes = λ p s e. (at p s e).parent_hash;
      }

  pub subtrees_whole : (n : ℕ) (t : Tree) → n ≡ leaf_count t → HasSoundSubtrees H n 0 t → IsParentHashValidTree H t
  subtrees_whole n t e g = subtrees_sound t (subst (λ k. HasSoundSubtrees H k 0 t) e g)

  -- ---- blank parents, and leaves

  pub sound_leaf : (n first : ℕ) (t : Tree) → ¬ IsNonBlankParent t → IsTrue (is_consistent first t) → HasSortedEntries (root_parent t) → IsSoundSubtree H n first t
  sound_leaf n first t h consistent sorted = record { sorted = sorted; consistent = consistent; parent_hash = λ set. absurd (h set) }

  pub sound_blank : (n first : ℕ) (l r : Tree) → HasSoundSubtrees H n first l → HasSoundSubtrees H n (first + leaf_count l) r → HasSoundSubtrees H n first (branch l None r)
  sound_blank n first l r a b = (sound_leaf n first (branch l None r) (λ h. h) refl tt, a, b)
