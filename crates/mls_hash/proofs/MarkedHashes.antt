-- Own hashes that are marked as known, in a list that is empty until the first of them is stored.
use Rattle.std.proofs.Common.{◌≡◌, ℕ, zero, suc, ◌<◌, Bool, true, false, List, [], ◌∷◌, length, replicate, Option, Some, None, cond, refl, sym, ap, ◌∙◌, inl, inr, arith}
use Rattle.std.specs.Prelude.{IfSome, is_some, slice_get, slice_set}
use Rattle.std.proofs.lemmas.Option.{none-some, same_Some, slice_get-get_or, slice_get_within}
use Rattle.mls_hash.specs.OwnHashesInternal.{AreStored, marked_hashes}

-- with no mark, the hashes don't matter
pub no_mark-None : (n : ℕ) (hashes : List (List ℕ)) → marked_hashes (replicate n false) hashes ≡ replicate n None
no_mark-None zero hashes = refl
no_mark-None (suc n) [] = ap (λ rest. None ∷ rest) (no_mark-None n [])
no_mark-None (suc n) (h ∷ hashes) = ap (λ rest. None ∷ rest) (no_mark-None n hashes)

none_known : (n k : ℕ) (hash : List ℕ) → slice_get (replicate n None) k ≡ Some (Some hash) → ⊥
none_known zero k hash e = none-some (Some hash) e
none_known (suc n) zero hash e = none-some hash (same_Some _ _ e)
none_known (suc n) (suc k) hash e = none_known n k hash e

pub no_mark-unknown : (n : ℕ) (hashes : List (List ℕ)) (k : ℕ) (hash : List ℕ) → slice_get (marked_hashes (replicate n false) hashes) k ≡ Some (Some hash) → ⊥
no_mark-unknown n hashes k hash e = none_known n k hash (ap (λ xs. slice_get xs k) (sym (no_mark-None n hashes)) ∙ e)

-- one is read
read_marked : (marks : List Bool) (hashes : List (List ℕ)) (k : ℕ) (hash : List ℕ) → slice_get marks k ≡ Some true → slice_get hashes k ≡ Some hash
    → slice_get (marked_hashes marks hashes) k ≡ Some (Some hash)
read_marked [] hashes k hash is at = absurd (none-some true is)
read_marked (b ∷ marks) [] k hash is at = absurd (none-some hash at)
read_marked (true ∷ marks) (h ∷ hashes) zero hash is at = ap (λ x. Some x) at
read_marked (false ∷ marks) (h ∷ hashes) zero hash is at = absurd (cc)
read_marked (b ∷ marks) (h ∷ hashes) (suc k) hash is at = read_marked marks hashes k hash is at

-- what is read, if it is one
pub read_option : (marks : List Bool) (hashes : List (List ℕ)) (k : ℕ) (read : Option (List ℕ)) → slice_get marks k ≡ Some true → read ≡ slice_get hashes k
    → IfSome read (λ hash. slice_get (marked_hashes marks hashes) k ≡ Some (Some hash))
read_option marks hashes k None is at = tt
read_option marks hashes k (Some hash) is at = read_marked marks hashes k hash is (sym at)

-- one is stored
pub marked_hashes-put : (marks : List Bool) (hashes : List (List ℕ)) (k : ℕ) (hash : List ℕ) → k < length hashes
    → marked_hashes (slice_set marks k true) (slice_set hashes k hash) ≡ slice_set (marked_hashes marks hashes) k (Some hash)
marked_hashes-put [] hashes k hash low = refl
marked_hashes-put (b ∷ marks) [] k hash low = absurd (omega arith)
marked_hashes-put (b ∷ marks) (h ∷ hashes) zero hash low = refl
marked_hashes-put (b ∷ marks) (h ∷ hashes) (suc k) hash low = ap (λ rest. (cond b (Some h) None) ∷ rest) (marked_hashes-put marks hashes k hash (omega arith))

-- with no mark, one list of hashes is as good as another
pub no_mark-alike : (marks : List Bool) (hashes others : List (List ℕ)) → marks ≡ replicate (length marks) false → marked_hashes marks hashes ≡ marked_hashes marks others
no_mark-alike marks hashes others none =
    ap (λ m. marked_hashes m hashes) none ∙ no_mark-None (length marks) hashes ∙ sym (no_mark-None (length marks) others) ∙ ap (λ m. marked_hashes m others) (sym none)

-- a node index at which there is a hash
pub place_of_hash : (hashes : List (List ℕ)) (k : ℕ) (read : Option (List ℕ)) → read ≡ slice_get hashes k → is_some read ≡ true → k < length hashes
place_of_hash hashes k None at some = absurd (cc)
place_of_hash hashes k (Some hash) at some = slice_get_within hashes k hash (sym at)

-- a mark without a hash: the list of hashes is not in use
pub no_mark-without_hash : (marks : List Bool) (hashes : List (List ℕ)) (k : ℕ) (read : Option (List ℕ)) → AreStored marks hashes → k < length marks → read ≡ slice_get hashes k → is_some read ≡ false
    → marks ≡ replicate (length marks) false
no_mark-without_hash marks hashes k read stored low at none =
    elim (stored.listed) [
      | inl same ↦
          (let there : is_some read ≡ true = ap is_some (at ∙ slice_get-get_or hashes k [] (omega (arith, same))) in
          absurd (cc))
      | inr unused ↦ unused.no_mark
    ]
