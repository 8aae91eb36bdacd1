-- Sets of digests: what an insertion adds, and that order and repeats don't matter.
use Rattle.std.proofs.Common.{◌≡◌, ◌∙◌, ℕ, Bool, true, false, cond, List, [], ◌∷◌, Option, Some, None, Ordering, refl, sym, BTreeSet}
use Rattle.std.specs.Prelude.{◌||◌}
use Rattle.std.specs.Ordering.{nat_cmp, is_eq}
use Rattle.std.specs.Cmp.Lexicographic.{slice_cmp}
use Rattle.std.specs.BTreeSet.{contains}
use Rattle.std.specs.List.{list_any}
use Rattle.std.specs.Str.{bytes_eq}
use Rattle.std.proofs.lemmas.Map.Text.{is_eq-slice_cmp}
use Rattle.std.proofs.lemmas.Slice.Eq.{bytes_eq-Decides}
use std.Path.{fun_ext}
use Rattle.sha2.specs.Sha256.{sha256}
use Rattle.mls_check.specs.Receipts.{receipt_input, is_listed, listed}
use Rattle.mls_check.specs.ReceiptSets.{has_digest, HaveSameDigests, SameDigestsMeanSame, MoreReceiptsExtend, LearningExtends, is_receipt, with_receipt, WithReceiptExtends}

abbrev digest_cmp : List ℕ → List ℕ → Ordering
digest_cmp a b = slice_cmp nat_cmp a b

-- tests that imply each other
alike : (x y : Bool) → (x ≡ true → y ≡ true) → (y ≡ true → x ≡ true) → x ≡ y
alike true y f g = sym (f refl)
alike false true f g = g refl
alike false false f g = refl

bytes_eq-sym : (a b : List ℕ) → bytes_eq a b ≡ bytes_eq b a
bytes_eq-sym a b =
    alike (bytes_eq a b) (bytes_eq b a) (λ e. (bytes_eq-Decides b a).1 (sym ((bytes_eq-Decides a b).0 e)))
    (λ e. (bytes_eq-Decides a b).1 (sym ((bytes_eq-Decides b a).0 e)))

-- what a search in the order of the set answers
pub found-has : (digests : List (List ℕ)) (digest : List ℕ) → list_any (λ d. is_eq (slice_cmp nat_cmp digest d)) digests ≡ has_digest digests digest
found-has [] digest = refl
found-has (d ∷ digests) digest =
    let here : is_eq (slice_cmp nat_cmp digest d) ≡ bytes_eq d digest = is_eq-slice_cmp digest d ∙ bytes_eq-sym digest d in
    let rest = found-has digests digest in
    λ i. here i || rest i

either : (b c : Bool) → cond b true c ≡ (b || c)
either true c = refl
either false c = refl

-- a set in which a digest was entered
pub learnt-has : (old new : BTreeSet (List ℕ)) (digest : List ℕ)
    → ((q : List ℕ) → contains digest_cmp new q ≡ cond (is_eq (slice_cmp nat_cmp digest q)) true (contains digest_cmp old q))
    → HaveSameDigests (digest ∷ old.keys) new.keys
learnt-has old new digest h q =
    let here = is_eq-slice_cmp digest q in
    let rest = found-has old.keys q in
    sym (found-has new.keys q) ∙ (h q ∙ (either (is_eq (slice_cmp nat_cmp digest q)) (contains digest_cmp old q) ∙ (λ i. here i || rest i)))

-- ---- what the sets mean

listed-same : (old new : List (List ℕ)) → HaveSameDigests old new → (input : Option (List ℕ)) → is_listed new input ≡ is_listed old input
listed-same old new same None = refl
listed-same old new same (Some input) = same (sha256 input)

pub same_mean : SameDigestsMeanSame
same_mean old new same =
    fun_ext (λ s. fun_ext (λ k. fun_ext (λ c. fun_ext (λ g. listed-same old new same (receipt_input s k c g)))))

or-right : (b c : Bool) → c ≡ true → (b || c) ≡ true
or-right true c e = refl
or-right false c e = e

listed-more : (old new : List (List ℕ)) → ((digest : List ℕ) → has_digest old digest ≡ true → has_digest new digest ≡ true)
    → (input : Option (List ℕ)) → is_listed old input ≡ true → is_listed new input ≡ true
listed-more old new more None e = e
listed-more old new more (Some input) e = more (sha256 input) e

pub more_extend : MoreReceiptsExtend
more_extend old new more suite key content signature e = listed-more old new more (receipt_input suite key content signature) e

pub learning_extends : LearningExtends
learning_extends old new digest same =
    more_extend old new (λ q e. same q ∙ or-right (bytes_eq digest q) (has_digest old q) e)

pub with_receipt_extends : WithReceiptExtends
with_receipt_extends G digest suite key content signature e =
    or-right (is_receipt digest (receipt_input suite key content signature)) (G suite key content signature) e

learnt-listed : (old new : List (List ℕ)) (digest : List ℕ) → HaveSameDigests (digest ∷ old) new → (input : Option (List ℕ))
    → is_listed new input ≡ (is_receipt digest input || is_listed old input)
learnt-listed old new digest same None = refl
learnt-listed old new digest same (Some input) = same (sha256 input)

-- what a set means after one receipt was added to it
pub learnt_mean : (old new : List (List ℕ)) (digest : List ℕ) → HaveSameDigests (digest ∷ old) new → listed new ≡ with_receipt (listed old) digest
learnt_mean old new digest same =
    fun_ext (λ s. fun_ext (λ k. fun_ext (λ c. fun_ext (λ g. learnt-listed old new digest same (receipt_input s k c g)))))
