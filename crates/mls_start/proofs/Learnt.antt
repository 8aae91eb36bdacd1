-- Receipts that are learnt one after the other.
use Rattle.std.proofs.Common.{◌≡◌, ◌∙◌, ℕ, zero, suc, ◌+◌, ◌*◌, ◌<◌, ◌≤◌, ◌/◌, List, length, take, drop, length-drop, refl, ap, arith}
use Rattle.std.proofs.lemmas.List.{drop-drop}
use Rattle.mls_check.specs.ReceiptSets.{with_receipt}
use Rattle.mls_check.specs.Signatures.{VerifyFn}
use Rattle.mls_start.specs.ReceiptBytes.{with_receipts, having_learnt}

-- one receipt, and those behind it
pub learnt_first : (G : VerifyFn) (bytes : List ℕ) → 32 ≤ length bytes
    → having_learnt G bytes ≡ having_learnt (with_receipt G (take 32 bytes)) (drop 32 bytes)
learnt_first G bytes le =
    let count : length bytes / 32 ≡ suc (length (drop 32 bytes) / 32) = omega (arith, length-drop 32 bytes) in
    ap (λ (n : ℕ). with_receipts n G bytes) count

-- too few bytes for one
pub learnt_none : (G : VerifyFn) (bytes : List ℕ) → length bytes < 32 → having_learnt G bytes ≡ G
learnt_none G bytes lt =
    let count : length bytes / 32 ≡ 0 = omega arith in
    ap (λ (n : ℕ). with_receipts n G bytes) count

-- ---- the receipts before some others

-- what follows the next receipt
pub after_next : (count : ℕ) (bytes : List ℕ) → drop 32 (drop (32 * count) bytes) ≡ drop (32 * suc count) bytes
after_next count bytes =
    let count_is : 32 * count + 32 ≡ 32 * suc count = omega arith in
    drop-drop 32 (32 * count) bytes ∙ ap (λ (n : ℕ). drop n bytes) count_is

before : (count : ℕ) (bytes : List ℕ) → drop (32 * count) (drop 32 bytes) ≡ drop (32 * suc count) bytes
before count bytes =
    let count_is : 32 + 32 * count ≡ 32 * suc count = omega arith in
    drop-drop (32 * count) 32 bytes ∙ ap (λ (n : ℕ). drop n bytes) count_is

-- one receipt more
pub learnt_next : (count : ℕ) (G : VerifyFn) (bytes : List ℕ)
    → with_receipts (suc count) G bytes ≡ with_receipt (with_receipts count G bytes) (take 32 (drop (32 * count) bytes))
learnt_next zero G bytes = refl
learnt_next (suc count) G bytes =
    learnt_next count (with_receipt G (take 32 bytes)) (drop 32 bytes) ∙ ap (λ (rest : List ℕ). with_receipt (with_receipts (suc count) G bytes) (take 32 rest)) (before count bytes)
