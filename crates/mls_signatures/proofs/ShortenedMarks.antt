-- Marks of the signatures of a list that are equal to no earlier one, by what the list stores of them.
use Rattle.std.proofs.Common.{◌≡◌, ◌∙◌, ℕ, ◌+◌, List, [], ◌∷◌, ◌++◌, length, Bool, true, false, cond, not, Bor, refl, sym, ap, subst}
use Rattle.std.specs.Prelude.{◌&&◌, ◌||◌, All, map}
use Rattle.std.specs.List.{list_any}
use Rattle.std.specs.declared.cmp.Ordering.{Ordering}
use Rattle.std.specs.Ordering.{nat_cmp, bool_cmp, is_eq, ordering_then}
use Rattle.std.specs.Cmp.{unsigned_ties, tied_then}
use Rattle.std.specs.Cmp.Lexicographic.{slice_cmp}
use Rattle.std.specs.BTreeMap.{is_at}
use Rattle.std.specs.BTreeSet.{BTreeSet, contains, IsEmpty}
use Rattle.std.proofs.Math.Bool.{beq}
use Rattle.std.proofs.Math.Seq.{take-append_seam, drop-append_seam}
use Rattle.std.proofs.lemmas.List.{length-map, map-append}
use Rattle.std.proofs.lemmas.List.Elements.{All-nil, All-cons, All-head, All-tail, All-take, All-drop}
use Rattle.std.proofs.lemmas.Map.Text.{is_eq-slice_cmp}
use Rattle.mls_signatures.specs.Marks.{marked}
use Rattle.mls_signatures.specs.ShortenedSignatures.{restored, restored_all, IsShortened, AreShortened}
use Rattle.mls_signatures.specs.SignaturesToVerify.{deduplicated}
use Rattle.mls_signatures.specs.declared.shortened_signature.ShortenedSignature.{ShortenedSignature}
use Rattle.mls_signatures.specs.declared.signature_to_verify.SignatureToVerify.{SignatureToVerify}
use Rattle.mls_signatures.proofs.DuplicateMarks.{is_met, deduplicated-more, marked_more, first_one, length_more}
use Rattle.mls_signatures.proofs.Shortened.{is_same_stored, same-stored}

-- ---- what a set holds of a signature

abbrev pub Parts : Type 0
Parts = ℕ × Bool × ℕ × ℕ × Bor (List ℕ)

-- their order
abbrev pub by_parts : Parts → Parts → Ordering
by_parts a b =
    ordering_then (ordering_then (ordering_then (ordering_then (nat_cmp a.0 b.0) (bool_cmp a.1 b.1)) (nat_cmp a.2 b.2)) (nat_cmp a.3 b.3))
    (slice_cmp nat_cmp a.4.now b.4.now)

-- what is stored with these parts
abbrev pub of_parts : Parts → ShortenedSignature
of_parts p = record { suite = p.0; is_shortened = p.1; key_len = p.2; signature_len = p.3; bytes = p.4.now }

is_eq-bool_cmp : (a b : Bool) → is_eq (bool_cmp a b) ≡ beq a b
is_eq-bool_cmp false false = refl
is_eq-bool_cmp false true = refl
is_eq-bool_cmp true false = refl
is_eq-bool_cmp true true = refl

by_parts-same : (a b : Parts) → is_eq (by_parts a b) ≡ is_same_stored (of_parts a) (of_parts b)
by_parts-same a b =
    let one = nat_cmp a.0 b.0 in
    let two = bool_cmp a.1 b.1 in
    let three = nat_cmp a.2 b.2 in
    let four = nat_cmp a.3 b.3 in
    let five = slice_cmp nat_cmp a.4.now b.4.now in
    sym (tied_then (ordering_then (ordering_then (ordering_then one two) three) four) five)
    ∙ (λ i. (sym (tied_then (ordering_then (ordering_then one two) three) four)
    ∙ (λ j. (sym (tied_then (ordering_then one two) three)
    ∙ (λ k. (sym (tied_then one two) ∙ (λ l. sym (unsigned_ties a.0 b.0) l && is_eq-bool_cmp a.1 b.1 l)) k && sym (unsigned_ties a.2 b.2) k)) j && sym (unsigned_ties a.3 b.3) j)) i && is_eq-slice_cmp a.4.now b.4.now i)

-- ---- what is among what is stored

-- whether one of the list is stored alike
abbrev pub is_stored : List ShortenedSignature → ShortenedSignature → Bool
is_stored xs x = list_any (λ y. is_same_stored y x) xs

or_first : (a b c : Bool) → (a || cond b true c) ≡ cond b true (a || c)
or_first true true c = refl
or_first true false c = refl
or_first false b c = refl

or_none : (b : Bool) → (b || false) ≡ cond b true false
or_none true = refl
or_none false = refl

stored_more : (xs : List ShortenedSignature) (w x : ShortenedSignature) → is_stored (xs ++ w ∷ []) x ≡ cond (is_same_stored w x) true (is_stored xs x)
stored_more [] w x = or_none (is_same_stored w x)
stored_more (y ∷ ys) w x = ap (λ (b : Bool). is_same_stored y x || b) (stored_more ys w x) ∙ or_first (is_same_stored y x) (is_same_stored w x) (is_stored ys x)

stored-met : (g : List ℕ) (xs : List ShortenedSignature) (x : ShortenedSignature) → AreShortened g xs → IsShortened g x
    → is_stored xs x ≡ is_met (restored_all g xs) (restored g x)
stored-met g [] x all one = refl
stored-met g (y ∷ ys) x all one =
    λ i. same-stored g y x (All-head (IsShortened g) y ys all) one i || stored-met g ys x (All-tail (IsShortened g) y ys all) one i

-- ---- marks

All-front : {X : Type 0} (P : X → Type 0) (xs ys : List X) → All P (xs ++ ys) → All P xs
All-front P xs ys all = subst (All P) (take-append_seam xs ys) (All-take P (length xs) (xs ++ ys) all)

All-back : {X : Type 0} (P : X → Type 0) (xs ys : List X) → All P (xs ++ ys) → All P ys
All-back P xs ys all = subst (All P) (drop-append_seam xs ys) (All-drop P (length xs) (xs ++ ys) all)

-- the marks are those of what is stored, which the set has
pub record HasMarks (xs : List ShortenedSignature) (marks : List Bool) (seen : BTreeSet Parts) : Type 0 where
  pub count : length marks ≡ length xs
  pub first : (g : List ℕ) → AreShortened g xs → marked marks (restored_all g xs) ≡ deduplicated (restored_all g xs)
  pub all : (p : Parts) → contains by_parts seen p ≡ is_stored xs (of_parts p)

pub marks-start : (seen : BTreeSet Parts) → IsEmpty seen → HasMarks [] [] seen
marks-start seen empty = record {
  count = refl;
  first = λ g all. refl;
  all = λ p. ap (λ (ps : List Parts). list_any (is_at (by_parts p)) ps) empty;
}

module _ (xs : List ShortenedSignature) (marks : List Bool) (seen : BTreeSet Parts) (known : HasMarks xs marks seen) where
  -- one signature more
  pub marks-next : (w : ShortenedSignature) (p : Parts) → of_parts p ≡ w → (b : Bool) → b ≡ not (contains by_parts seen p) → (new : BTreeSet Parts)
      → ((q : Parts) → contains by_parts new q ≡ cond (is_at (by_parts p) q) true (contains by_parts seen q))
      → (more : List Bool) → more ≡ marks ++ b ∷ [] → HasMarks (xs ++ w ∷ []) more new
  marks-next w p is b e new added more push = record {
    count = ap length push ∙ length_more marks b ∙ ap (λ n. n + 1) known.count ∙ sym (length_more xs w);
    first = λ g all.
        let front : AreShortened g xs = All-front (IsShortened g) xs (w ∷ []) all in
        let one : IsShortened g w = All-head (IsShortened g) w [] (All-back (IsShortened g) xs (w ∷ []) all) in
        let qs = restored_all g xs in
        let q = restored g w in
        let met : b ≡ not (is_met qs q) = e ∙ ap not (known.all p ∙ ap (is_stored xs) is ∙ stored-met g xs w front one) in
        let split : restored_all g (xs ++ w ∷ []) ≡ qs ++ q ∷ [] = map-append (restored g) xs (w ∷ []) in
        ap (λ bs. marked bs (restored_all g (xs ++ w ∷ []))) push
        ∙ ap (λ (ws : List SignatureToVerify). marked (marks ++ b ∷ []) ws) split
        ∙ marked_more marks qs b q (known.count ∙ sym (length-map xs (restored g)))
        ∙ ap (λ (c : Bool). marked marks qs ++ cond c (q ∷ []) []) met
        ∙ (λ i. known.first g front i ++ first_one (is_met qs q) q i)
        ∙ sym (deduplicated-more qs q)
        ∙ ap deduplicated (sym split);
    all = λ q.
        added q
        ∙ (λ i. cond (by_parts-same p q i) true (known.all q i))
        ∙ ap (λ (v : ShortenedSignature). cond (is_same_stored v (of_parts q)) true (is_stored xs (of_parts q))) is
        ∙ sym (stored_more xs w (of_parts q));
  }

-- ---- the marked ones

pub marked-map : {X Y : Type 0} (f : X → Y) (bs : List Bool) (xs : List X) → map f (marked bs xs) ≡ marked bs (map f xs)
marked-map f [] xs = refl
marked-map f (b ∷ bs) [] = refl
marked-map f (true ∷ bs) (x ∷ xs) = ap (λ ys. f x ∷ ys) (marked-map f bs xs)
marked-map f (false ∷ bs) (x ∷ xs) = marked-map f bs xs

pub marked-all : {X : Type 0} (P : X → Type 0) (bs : List Bool) (xs : List X) → All P xs → All P (marked bs xs)
marked-all P [] xs all = All-nil P
marked-all P (b ∷ bs) [] all = All-nil P
marked-all P (true ∷ bs) (x ∷ xs) all = All-cons P x (marked bs xs) (All-head P x xs all) (marked-all P bs xs (All-tail P x xs all))
marked-all P (false ∷ bs) (x ∷ xs) all = marked-all P bs xs (All-tail P x xs all)
