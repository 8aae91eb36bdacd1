-- A list of which an item is taken out.
use Rattle.std.proofs.Common.{◌≡◌, ℕ, zero, suc, ◌≤◌, List, [], ◌∷◌, ◌++◌, length, Option, Some, ap, ◌∙◌, arith, length-append}
use Rattle.std.specs.Prelude.{IsSome, remove, option_map}
use Rattle.std.proofs.lemmas.List.{take_all}
use Rattle.mls_wire.specs.Encoding.{items, list}
use Rattle.mls_wire.specs.EncodingConcat.{joined, join}
use Rattle.mls_wire.specs.EncodedSizes.{list_some, fits_all}

module _ {A : Type 0} (s : A → Option (List ℕ)) where
  -- the others have a spelling that is no longer
  items_removed : (xs : List A) (i : ℕ) (t : List ℕ) → items s xs ≡ Some t → (u : List ℕ) × (items s (remove xs i) ≡ Some u) × (length u ≤ length t)
  unfolding items
  items_removed [] zero t e = (t, e, omega arith)
  items_removed [] (suc i) t e = (t, e, omega arith)
  items_removed (x ∷ xs) zero t e =
      let a = joined (s x) (items s xs) t e in
      (a.1, a.3, omega (arith, ap length a.4, length-append a.0 a.1))
  items_removed (x ∷ xs) (suc i) t e =
      let a = joined (s x) (items s xs) t e in
      let b = items_removed xs i a.1 a.3 in
      (a.0 ++ b.0, join _ _ _ _ a.2 b.1, omega (arith, b.2, ap length a.4, length-append a.0 a.1, length-append a.0 b.0))

  -- so they fit into one vector where all do
  pub list_removed : (xs : List A) (i : ℕ) → IsSome (list s xs) → IsSome (list s (remove xs i))
  list_removed xs i h =
      let a = list_some s xs h in
      let b = items_removed xs i a.0 a.1 in
      let whole = take_all (length (remove xs i)) (remove xs i) (omega arith) in
      fits_all s (remove xs i) (length (remove xs i)) (length b.0) (omega arith) (ap (λ (ys : List A). option_map length (items s ys)) whole ∙ ap (option_map length) b.1) (omega (arith, b.2, a.2))
