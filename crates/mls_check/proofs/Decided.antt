-- Conditions that are decided: each holds or fails. So one that fails at some place fails first at one.
use Rattle.std.proofs.Common.{◌≡◌, ◌≢◌, ℕ, zero, suc, ◌+◌, ◌<◌, ◌≤◌, List, [], ◌∷◌, Option, Some, None, refl, sym, ap, ◌∙◌, subst, arith, inl, inr}
use Rattle.std.specs.Prelude.{◌⊎◌, ◌==◌}
use Rattle.std.specs.List.{Contains, list_any}
use Rattle.std.specs.Str.{bytes_eq}
use Rattle.std.proofs.lemmas.Bool.{cases_lt, cases_order, cases_Bool, false≢true}
use Rattle.std.proofs.lemmas.Option.{same_Some, none-some}
use Rattle.std.proofs.lemmas.Slice.Eq.{bytes_eq-Decides}
use Rattle.mls_check.specs.FirstFailure.{IsFirstFailure}
use Rattle.mls_check.proofs.Elements.{contains-nil, contains-cons, contains-found, found-at}

-- P holds, or it fails
abbrev pub Decided : Type 0 → Type 0
Decided P = P ⊎ (¬ P)

pub decided-like : {P Q : Type 0} → (P → Q) → (Q → P) → Decided P → Decided Q
decided-like f g (inl p) = inl (f p)
decided-like f g (inr n) = inr (λ q. n (g q))

pub decided-and : {P Q : Type 0} → Decided P → Decided Q → Decided (P × Q)
decided-and (inl p) (inl q) = inl (p, q)
decided-and (inl p) (inr m) = inr (λ w. m w.1)
decided-and (inr n) d = inr (λ w. n w.0)

pub decided-or : {P Q : Type 0} → Decided P → Decided Q → Decided (P ⊎ Q)
decided-or (inl p) d = inl (inl p)
decided-or (inr n) (inl q) = inl (inr q)
decided-or (inr n) (inr m) = inr (λ w. elim w [ inl p ↦ n p | inr q ↦ m q ])

pub decided-implies : {P Q : Type 0} → Decided P → Decided Q → Decided (P → Q)
decided-implies d (inl q) = inl (λ p. q)
decided-implies (inl p) (inr m) = inr (λ f. m (f p))
decided-implies (inr n) (inr m) = inl (λ p. absurd (n p))

-- ---- numbers and lists of numbers

pub decided-lt : (a b : ℕ) → Decided (a < b)
decided-lt a b = elim (cases_lt a b) [ inl l ↦ inl l | inr g ↦ inr (λ l. omega arith) ]

pub decided-same : (a b : ℕ) → Decided (a ≡ b)
decided-same a b = elim (cases_order a b) [ inl e ↦ inl e | inr (inl l) ↦ inr (λ e. omega arith) | inr (inr g) ↦ inr (λ e. omega arith) ]

pub decided-other : (a b : ℕ) → Decided (a ≢ b)
decided-other a b = elim (decided-same a b) [ inl e ↦ inr (λ n. n e) | inr n ↦ inl n ]

pub decided-contains : (xs : List ℕ) (x : ℕ) → Decided (Contains xs x)
decided-contains xs x =
    elim (cases_Bool (list_any (λ y. y == x) xs)) [
      | inl t ↦ inl (contains-found xs x t)
      | inr f ↦ inr (λ c. false≢true (sym f ∙ found-at xs x c.0 c.1 c.2))
    ]

pub decided-bytes : (xs ys : List ℕ) → Decided (xs ≡ ys)
decided-bytes xs ys =
    elim (cases_Bool (bytes_eq xs ys)) [
      | inl t ↦ inl ((bytes_eq-Decides xs ys).0 t)
      | inr f ↦ inr (λ e. false≢true (sym f ∙ (bytes_eq-Decides xs ys).1 e))
    ]

-- whether two options hold one list
pub decided-agree : (a b : Option (List ℕ)) → Decided ((xs : List ℕ) × (a ≡ Some xs) × (b ≡ Some xs))
decided-agree None b = inr (λ w. none-some w.0 w.1)
decided-agree (Some xs) None = inr (λ w. none-some w.0 w.2)
decided-agree (Some xs) (Some ys) =
    elim (decided-bytes xs ys) [
      | inl e ↦ inl (xs, refl, ap Some (sym e))
      | inr n ↦ inr (λ w. n (same_Some xs w.0 w.1 ∙ sym (same_Some ys w.0 w.2)))
    ]

-- a number above all of a list
abbrev pub above_all : List ℕ → ℕ
above_all [] = 0
above_all (x ∷ xs) = suc (x + above_all xs)

pub contains-above : (xs : List ℕ) (x : ℕ) → Contains xs x → x < above_all xs
contains-above [] x c = absurd (contains-nil x c)
contains-above (y ∷ xs) x c =
    elim (contains-cons y xs x c) [
      | inl e ↦ omega arith
      | inr d ↦ omega (arith, contains-above xs x d)
    ]

-- ---- conditions at places

module _ (P : ℕ → Type 0) (d : (k : ℕ) → Decided (P k)) where
  -- a place below n at which the condition holds, or there is none
  pub found_below : (n : ℕ) → ((k : ℕ) × (k < n) × P k) ⊎ ((k : ℕ) → k < n → ¬ P k)
  found_below zero = inr (λ k l p. absurd (omega arith))
  found_below (suc n) =
      elim (found_below n) [
        | inl w ↦ inl (w.0, omega (arith, w.1), w.2)
        | inr none ↦ elim (d n) [
          | inl p ↦ inl (n, omega arith, p)
          | inr m ↦ inr (λ k l p. elim (cases_lt k n) [ inl b ↦ none k b p | inr g ↦ (let e : k ≡ n = omega arith in m (subst P e p)) ])
        ]
      ]

  -- the first place at which it fails, where it holds from some place on, or at all places
  pub first_or_all : (n : ℕ) → (((p : ℕ) → p < n → P p) → (p : ℕ) → P p) → ((p : ℕ) → P p) ⊎ ((p : ℕ) × IsFirstFailure P p)
  first_or_all n everywhere = elim (below n) [ inl all ↦ inl (everywhere all) | inr w ↦ inr w ]
    where
      below : (n : ℕ) → ((p : ℕ) → p < n → P p) ⊎ ((p : ℕ) × IsFirstFailure P p)
      below zero = inl (λ p l. absurd (omega arith))
      below (suc n) =
          elim (below n) [
            | inl all ↦ elim (d n) [
              | inl h ↦ inl (λ p l. elim (cases_lt p n) [ inl b ↦ all p b | inr g ↦ (let e : n ≡ p = omega arith in subst P e h) ])
              | inr m ↦ inr (n, record { fails = m; earlier = all })
            ]
            | inr w ↦ inr w
          ]

  pub decided-all : (n : ℕ) → ((p : ℕ) → n ≤ p → P p) → Decided ((p : ℕ) → P p)
  decided-all n past =
      elim (first_or_all n (λ all p. elim (cases_lt p n) [ inl l ↦ all p l | inr g ↦ past p g ])) [
        | inl all ↦ inl all
        | inr w ↦ (let first = w.1 in inr (λ all. first.fails (all w.0)))
      ]

-- a condition that fails first at some place doesn't hold at all
pub not_all : {P : ℕ → Type 0} (p : ℕ) → IsFirstFailure P p → ¬ ((q : ℕ) → P q)
not_all p f all = f.fails (all p)

-- and fails first at no other
pub failure-unique : {P : ℕ → Type 0} (p q : ℕ) → IsFirstFailure P p → IsFirstFailure P q → p ≡ q
failure-unique p q f g =
    elim (cases_order p q) [
      | inl same ↦ same
      | inr (inl low) ↦ absurd (f.fails (g.earlier p low))
      | inr (inr high) ↦ absurd (g.fails (f.earlier q high))
    ]
