-- A list of signatures without its duplicates, and marks.
use Rattle.std.proofs.Common.{◌≡◌, ◌∙◌, ◌+◌, List, [], ◌∷◌, ◌++◌, length, Bool, true, false, cond, not, refl, ap, arith}
use Rattle.std.specs.Prelude.{◌||◌}
use Rattle.std.specs.List.{list_any}
use Rattle.std.proofs.lemmas.List.Elements.{filter-append}
use Rattle.mls_signatures.specs.Marks.{marked}
use Rattle.mls_signatures.specs.SignaturesToVerify.{is_same, without_signature, deduplicated}
use Rattle.mls_signatures.specs.declared.signature_to_verify.SignatureToVerify.{SignatureToVerify}

-- ---- none twice

-- whether one is the same as one of the list
abbrev pub is_met : List SignatureToVerify → SignatureToVerify → Bool
is_met qs q = list_any (λ r. is_same r q) qs

-- what is kept of a list with one more at its end
later_none : (b : Bool) (q : SignatureToVerify) → ◌≡◌ {A = List SignatureToVerify} [] (cond (b || true) [] (q ∷ []))
later_none true q = refl
later_none false q = refl

later_one : (b : Bool) (q : SignatureToVerify) → cond (not b) (q ∷ []) [] ≡ cond (b || false) [] (q ∷ [])
later_one true q = refl
later_one false q = refl

last_kept : (r q : SignatureToVerify) (m : Bool) → without_signature r (cond m [] (q ∷ [])) ≡ cond (is_same r q || m) [] (q ∷ [])
last_kept r q true = later_none (is_same r q) q
last_kept r q false = later_one (is_same r q) q

pub deduplicated-more : (qs : List SignatureToVerify) (q : SignatureToVerify) → deduplicated (qs ++ q ∷ []) ≡ deduplicated qs ++ cond (is_met qs q) [] (q ∷ [])
deduplicated-more [] q = refl
deduplicated-more (r ∷ rs) q =
    ap (λ (ws : List SignatureToVerify). r ∷ without_signature r ws) (deduplicated-more rs q)
    ∙ ap (λ (ws : List SignatureToVerify). r ∷ ws) (filter-append (λ w. not (is_same r w)) (deduplicated rs) (cond (is_met rs q) [] (q ∷ [])))
    ∙ ap (λ (ws : List SignatureToVerify). r ∷ (without_signature r (deduplicated rs) ++ ws)) (last_kept r q (is_met rs q))

-- ---- marks

-- a mark for one more element at the end
pub marked_more : {X : Type 0} (bs : List Bool) (xs : List X) (b : Bool) (x : X) → length bs ≡ length xs
    → marked (bs ++ b ∷ []) (xs ++ x ∷ []) ≡ marked bs xs ++ cond b (x ∷ []) []
marked_more [] [] b x e = refl
marked_more [] (y ∷ ys) b x e = absurd (omega (arith, e))
marked_more (a ∷ rest) [] b x e = absurd (omega (arith, e))
marked_more (true ∷ rest) (y ∷ ys) b x e = ap (λ zs. y ∷ zs) (marked_more rest ys b x (omega (arith, e)))
marked_more (false ∷ rest) (y ∷ ys) b x e = marked_more rest ys b x (omega (arith, e))

pub first_one : {X : Type 0} (m : Bool) (x : X) → cond (not m) (x ∷ []) [] ≡ cond m [] (x ∷ [])
first_one true x = refl
first_one false x = refl

pub length_more : {X : Type 0} (xs : List X) (x : X) → length (xs ++ x ∷ []) ≡ length xs + 1
length_more [] x = refl
length_more (y ∷ ys) x = omega (arith, length_more ys x)
