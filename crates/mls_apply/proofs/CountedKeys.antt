-- A route takes a key at each of its places, and so a merged path and the parent hashes that a path has to carry do.
use Rattle.std.proofs.Common.{◌≡◌, ◌∙◌, ℕ, List, [], ◌∷◌, length, Option, Some, None, IsSome, refl, sym, subst, arith}
use Rattle.std.specs.Prelude.{option_map, option_and_then, reverse}
use Rattle.std.proofs.lemmas.List.{length-reverse}
use Rattle.mls_tree.specs.Tree.{Tree, leaf_count}
use Rattle.mls_tree.specs.Paths.{filtered_direct_path}
use Rattle.mls_tree.proofs.Trees.{subtree_at-root}
use Rattle.mls_apply.specs.KeyCounts.{MergesTakeEachKey, HashesTakeEachKey}
use Rattle.mls_apply.specs.MergePath.{path_parent}
use Rattle.mls_apply.specs.PathRules.{path_length}
use Rattle.mls_apply.specs.PathParents.{PathParents, below, path_parents, parents_of_path, path_hash_at, carried}
use Rattle.mls_apply.proofs.Routes.{OfRoute, made, merged-path_parents, expected-path_parents}

module _ (H : List ℕ → List ℕ) (t : Tree) (i : ℕ) where
  path_parents-counted : (ps : List ℕ) (keys : List (List ℕ)) (hash : List ℕ) → OfRoute (λ _. length keys ≡ length ps) (path_parents H t i ps keys hash)
  path_parents-counted [] [] hash = refl
  path_parents-counted [] (_ ∷ _) hash = tt
  path_parents-counted (p ∷ ps) [] hash = tt
  path_parents-counted (p ∷ ps) (key ∷ keys) hash = go (path_hash_at H t i p (path_parent key hash)) (path_parents-counted ps keys)
    where
      lower : (o : Option PathParents) → OfRoute (λ _. length keys ≡ length ps) o
          → OfRoute (λ _. length (key ∷ keys) ≡ length (p ∷ ps)) (option_map (below p (path_parent key hash)) o)
      lower None h = tt
      lower (Some r) h = omega (arith, h)

      go : (o : Option (List ℕ)) → ((h : List ℕ) → OfRoute (λ _. length keys ≡ length ps) (path_parents H t i ps keys h))
          → OfRoute (λ _. length (key ∷ keys) ≡ length (p ∷ ps)) (option_and_then (λ h. option_map (below p (path_parent key hash)) (path_parents H t i ps keys h)) o)
      go None ih = tt
      go (Some h) ih = lower (path_parents H t i ps keys h) (ih h)

  -- where there is something of a route, there is the route
  of_some : {X : Type 0} (f : PathParents → X) (P : Type 0) (o : Option PathParents) → IsSome (option_map f o) → OfRoute (λ _. P) o → P
  of_some f P None h counted = absurd cc
  of_some f P (Some r) h counted = counted

  module _ (keys : List (List ℕ)) where
    turned_back : length (reverse keys) ≡ length (reverse (filtered_direct_path (leaf_count t) 0 t i)) → length keys ≡ path_length t i
    turned_back e = sym (length-reverse keys) ∙ e ∙ length-reverse (filtered_direct_path (leaf_count t) 0 t i)

    path-counted : {X : Type 0} (f : PathParents → X) → IsSome (option_map f (parents_of_path H t i keys)) → length keys ≡ path_length t i
    path-counted f h =
        turned_back (of_some f (length (reverse keys) ≡ length (reverse (filtered_direct_path (leaf_count t) 0 t i))) (parents_of_path H t i keys) h
        (path_parents-counted (reverse (filtered_direct_path (leaf_count t) 0 t i)) (reverse keys) []))

pub merges_take_each_key : MergesTakeEachKey
merges_take_each_key H t i x keys h =
    path-counted H t i keys (made H t i x 0 t)
    (subst (λ (o : Option Tree). IsSome o) (merged-path_parents H t i x (leaf_count t) 0 t (subtree_at-root 0 t) [] (reverse keys)) h)

pub hashes_take_each_key : HashesTakeEachKey
hashes_take_each_key H t i keys h =
    path-counted H t i keys carried (subst (λ (o : Option (List (List ℕ))). IsSome o) (expected-path_parents H t i keys) h)
