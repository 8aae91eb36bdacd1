-- The first slots are emptied, one after the other.
use Rattle.std.proofs.Common.{◌≡◌, ℕ, zero, suc, ◌+◌, List, [], ◌∷◌, ◌++◌, Option, None, sym, ap, ◌∙◌, arith}
use Rattle.std.specs.Prelude.{slice_set}
use Rattle.std.specs.List.{range_with_len}
use Rattle.mls_tree.specs.HashCache.{emptied}
use Rattle.mls_tree.proofs.Emptying.{emptied-append}

-- one more number
range-next : (a n : ℕ) → range_with_len a (suc n) ≡ range_with_len a n ++ (a + n) ∷ []
range-next a zero = let at : a ≡ a + 0 = omega arith in ap (λ k. k ∷ []) at
range-next a (suc n) = let at : a + 1 + n ≡ a + suc n = omega arith in ap (λ ks. a ∷ ks) (range-next (a + 1) n ∙ ap (λ k. range_with_len (a + 1) n ++ k ∷ []) at)

-- one more slot
pub emptied-more : (slots : List (Option (List ℕ))) (n : ℕ) → slice_set (emptied slots (range_with_len 0 n)) n None ≡ emptied slots (range_with_len 0 (n + 1))
emptied-more slots n =
    let next : n + 1 ≡ suc n = omega arith in
    let at : 0 + n ≡ n = omega arith in
    sym (ap (λ k. emptied slots (range_with_len 0 k)) next
    ∙ ap (emptied slots) (range-next 0 n ∙ ap (λ k. range_with_len 0 n ++ k ∷ []) at)
    ∙ emptied-append slots (range_with_len 0 n) (n ∷ []))
