-- A filled tree: the smallest full tree that has capacity for the entries, with the entries at its front. Internal: no public
-- contract uses this.
use Rattle.std.proofs.Common.{◌≡◌, ℕ, zero, suc, ◌+◌, ◌-◌, ◌*◌, ◌^◌, ◌≤◌, ◌<◌, true, leb, List, [], ◌∷◌, ◌++◌, length, take, drop, replicate, slice_get, Option, Some, None, All, refl, sym, ap, ◌∙◌, arith, length-append, inl, inr}
use Rattle.std.proofs.lemmas.Bool.{cond_both, leb-true, leb-false, le-leb, lt-leb, cases_lt}
use Rattle.std.proofs.lemmas.List.{take_at, drop_at, length-replicate}
use Rattle.std.proofs.lemmas.List.Elements.{All-replicate}
use Rattle.std.proofs.Math.Nat.{pow-suc}
use Rattle.std.proofs.Math.Pow.{pow_mono}
use Rattle.mls_nodes.specs.NodeModel.{NodeValue}
use Rattle.mls_nodes.specs.RatchetTreeEncoding.{full_from, full_size, filled, is_non_blank, ends_non_blank, prepend_trimmed, trimmed}

-- A size with capacity is taken.
pub full_from-stops : (steps size count : ℕ) → count ≤ size → full_from steps size count ≡ size
full_from-stops zero size count le = refl
full_from-stops (suc steps) size count le = rw (le-leb count size le) refl

-- A size without capacity is doubled.
pub full_from-doubles : (steps size count : ℕ) → size < count → full_from (suc steps) size count ≡ full_from steps (2 * size + 1) count
full_from-doubles steps size count lt = rw (lt-leb count size lt) refl

-- That many steps are enough.
full_from-enough : (steps size count : ℕ) → count ≤ size + steps → 1 ≤ size → count ≤ full_from steps size count
full_from-enough zero size count le some = omega arith
full_from-enough (suc steps) size count le some =
    cond_both (leb count size) size (full_from steps (2 * size + 1) count) (λ x. count ≤ x) (leb-true count size)
    (λ e. let lt = leb-false count size e in full_from-enough steps (2 * size + 1) count (omega arith) (omega arith))

-- A full tree has capacity.
pub full_size-enough : (count : ℕ) → count ≤ full_size count
unfolding full_size
full_size-enough count = full_from-enough count 1 count (omega arith) (omega arith)

-- The next of the numbers 1, 3, 7, ..
next_full : (size d : ℕ) → size + 1 ≡ 2 ^ (d + 1) → 2 * size + 1 + 1 ≡ 2 ^ (d + 1 + 1)
next_full size d e =
    let twice : 2 ^ (d + 1 + 1) ≡ 2 ^ (d + 1) * 2 = ap (λ (n : ℕ). 2 ^ n) (omega arith) ∙ pow-suc 2 (d + 1) in
    omega arith

-- Each size tried is one of them.
full_from-full : (steps size count d : ℕ) → size + 1 ≡ 2 ^ (d + 1) → (e : ℕ) × (full_from steps size count + 1 ≡ 2 ^ (e + 1))
full_from-full zero size count d h = (d, h)
full_from-full (suc steps) size count d h =
    cond_both (leb count size) size (full_from steps (2 * size + 1) count) (λ x. (e : ℕ) × (x + 1 ≡ 2 ^ (e + 1))) (λ t. (d, h))
    (λ f. full_from-full steps (2 * size + 1) count (d + 1) (next_full size d h))

-- If a size is below a count, and some number of this form is not, the size is below that number.
below_full : (size count d k : ℕ) → size + 1 ≡ 2 ^ (d + 1) → size < count → count + 1 ≤ 2 ^ (k + 1) → d + 1 ≤ k
below_full size count d k h lt le =
    elim (cases_lt d k) [
      | inl less ↦ omega arith
      | inr more ↦ let high : 2 ^ (k + 1) ≤ 2 ^ (d + 1) = pow_mono {i = k + 1} {j = d + 1} (omega arith) in absurd (omega arith)
    ]

-- No size with capacity is passed over.
full_from-least : (steps size count d k : ℕ) → size + 1 ≡ 2 ^ (d + 1) → d ≤ k → count + 1 ≤ 2 ^ (k + 1) → full_from steps size count + 1 ≤ 2 ^ (k + 1)
full_from-least zero size count d k h le fit = let low : 2 ^ (d + 1) ≤ 2 ^ (k + 1) = pow_mono {i = d + 1} {j = k + 1} (omega arith) in omega arith
full_from-least (suc steps) size count d k h le fit =
    let low : 2 ^ (d + 1) ≤ 2 ^ (k + 1) = pow_mono {i = d + 1} {j = k + 1} (omega arith) in
    cond_both (leb count size) size (full_from steps (2 * size + 1) count) (λ x. x + 1 ≤ 2 ^ (k + 1)) (λ t. omega arith)
    (λ f. let lt = leb-false count size f in full_from-least steps (2 * size + 1) count (d + 1) k (next_full size d h) (below_full size count d k h (omega arith) fit) fit)

full_size-full : (count : ℕ) → (d : ℕ) × (full_size count + 1 ≡ 2 ^ (d + 1))
unfolding full_size
full_size-full count = full_from-full count 1 count 0 refl

full_size-least : (count k : ℕ) → count + 1 ≤ 2 ^ (k + 1) → full_size count + 1 ≤ 2 ^ (k + 1)
unfolding full_size
full_size-least count k le = full_from-least count 1 count 0 k refl (omega arith) le

-- There are as many entries as in a full tree.
pub length-filled : (nodes : List (Option NodeValue)) → length (filled nodes) ≡ full_size (length nodes)
length-filled nodes =
    let capacity = full_size-enough (length nodes) in
    let blanks = length-replicate {A = Option NodeValue} (full_size (length nodes) - length nodes) None in
    omega (arith, length-append nodes (replicate (full_size (length nodes) - length nodes) None))

-- The number of entries is 2 ^ (d + 1) - 1: that of a full tree.
pub filled-full : (nodes : List (Option NodeValue)) → (d : ℕ) × (length (filled nodes) ≡ 2 ^ (d + 1) - 1)
filled-full nodes = let a = full_size-full (length nodes) in (a.0, omega (arith, length-filled nodes, a.1))

-- It is not below the number of given nodes.
pub filled-capacity : (nodes : List (Option NodeValue)) → length nodes ≤ length (filled nodes)
filled-capacity nodes = omega (arith, length-filled nodes, full_size-enough (length nodes))

-- It is the least such number.
pub filled-least : (nodes : List (Option NodeValue)) (d : ℕ) → length nodes ≤ 2 ^ (d + 1) - 1 → length (filled nodes) ≤ 2 ^ (d + 1) - 1
filled-least nodes d le =
    let some : 1 ≤ 2 ^ (d + 1) = pow_mono {i = 0} {j = d + 1} (omega arith) in
    omega (arith, length-filled nodes, full_size-least (length nodes) d (omega arith))

-- The given nodes are at the front.
pub filled-front : (nodes : List (Option NodeValue)) → take (length nodes) (filled nodes) ≡ nodes
filled-front nodes = take_at nodes (replicate (full_size (length nodes) - length nodes) None) (length nodes) refl

-- Blank nodes are after them.
pub filled-back : (nodes : List (Option NodeValue)) → All (λ x. x ≡ None) (drop (length nodes) (filled nodes))
filled-back nodes =
    let n = full_size (length nodes) - length nodes in
    rw (drop_at nodes (replicate n None) (length nodes) refl) (All-replicate (λ (x : Option NodeValue). x ≡ None) n None refl)

-- ---- and back

-- Trimming blank nodes leaves nothing.
trimmed-blanks : (n : ℕ) → trimmed (replicate n None) ≡ []
trimmed-blanks zero = refl
trimmed-blanks (suc n) = ap (prepend_trimmed None) (trimmed-blanks n)

trimmed-more : (xs : List (Option NodeValue)) (n : ℕ) → trimmed (xs ++ replicate n None) ≡ trimmed xs
trimmed-more [] n = trimmed-blanks n
trimmed-more (x ∷ xs) n = ap (prepend_trimmed x) (trimmed-more xs n)

-- The last entry of a longer list is that of the shorter one.
pub ends_more : (x y : Option NodeValue) (ys : List (Option NodeValue)) → ends_non_blank (x ∷ y ∷ ys) ≡ ends_non_blank (y ∷ ys)
ends_more x y ys =
    let e : length (x ∷ y ∷ ys) - 1 ≡ suc (length ys) = omega arith in
    let d : length (y ∷ ys) - 1 ≡ length ys = omega arith in
    ap (λ (k : ℕ). is_non_blank (slice_get (x ∷ y ∷ ys) k)) e ∙ ap (λ (k : ℕ). is_non_blank (slice_get (y ∷ ys) k)) (sym d)

before_more : (x y : Option NodeValue) (ys : List (Option NodeValue)) → prepend_trimmed x (y ∷ ys) ≡ x ∷ y ∷ ys
before_more None y ys = refl
before_more (Some n) y ys = refl

-- Trimming changes no list whose last entry is non-blank.
pub trimmed-ends_non_blank : (xs : List (Option NodeValue)) → ends_non_blank xs ≡ true → trimmed xs ≡ xs
trimmed-ends_non_blank [] e = refl
trimmed-ends_non_blank (None ∷ []) e = absurd cc
trimmed-ends_non_blank (Some n ∷ []) e = refl
trimmed-ends_non_blank (x ∷ y ∷ ys) e = ap (prepend_trimmed x) (trimmed-ends_non_blank (y ∷ ys) (sym (ends_more x y ys) ∙ e)) ∙ before_more x y ys

-- Trimming undoes filling.
pub trimmed-filled : (nodes : List (Option NodeValue)) → ends_non_blank nodes ≡ true → trimmed (filled nodes) ≡ nodes
trimmed-filled nodes e = trimmed-more nodes (full_size (length nodes) - length nodes) ∙ trimmed-ends_non_blank nodes e
