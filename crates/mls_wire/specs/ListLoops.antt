-- A list as a loop reads it: the items so far, and those that are still read. Internal: no public contract uses this.
use Rattle.std.proofs.Common.{◌≡◌, ℕ, zero, suc, ◌-◌, ◌<◌, ◌≤◌, true, false, cond, eqb, List, [], ◌∷◌, ◌++◌, length, Option, Some, None, Result, Err, refl, sym, ap, ◌∙◌, append_assoc, arith, inl, inr}
use Rattle.std.proofs.lemmas.Bool.{cases_lt, ne_eqb, eq-eqb}
use Rattle.std.proofs.lemmas.List.{length-append, append-nil, nil_from_length}
use Rattle.mls_wire.specs.declared.fault.CodecFault.{CodecFault}
use Rattle.mls_wire.specs.declared.fault.CodecFault.TheVariants as faults
use Rattle.mls_wire.specs.Input.{Input}
use Rattle.mls_wire.specs.Parsing.{◌>>=◌, GivesOrFull, items_at}
use Rattle.mls_wire.specs.ParsingInternal.{Finds}
use Rattle.mls_wire.specs.OptionBind.{same_bind}
use Rattle.mls_wire.specs.ExactParsers.{IsExact, IsLong}

-- Reading an item shortens the rest.
abbrev pub Shortens : {A : Type 0} → (Input → Option (A × Input)) → Type 0
Shortens {A} f = (i : Input) (x : A) (j : Input) → f i ≡ Some (x, j) → length j.left < length i.left

-- An exact function of values with at least one byte does so.
pub shortens : {A : Type 0} (s : A → Option (List ℕ)) (f : Input → Option (A × Input)) → IsExact s f → IsLong s → Shortens f
shortens s f exact long i x j e =
    let t = (exact.takes i x j e).1 in
    omega (arith, long x t.0 t.1, ap length t.2, length-append t.0 j.left)

-- The items read before, and those still to be read.
abbrev pub with_front : {A : Type 0} → List A → Option (List A) → Option (List A)
with_front front o = o >>= λ xs. Some (front ++ xs)

-- One more item before.
pub front_more : {A : Type 0} (front : List A) (x : A) (o : Option (List A)) → with_front front (o >>= λ xs. Some (x ∷ xs)) ≡ with_front (front ++ x ∷ []) o
front_more {A = A} front x None = refl
front_more {A = A} front x (Some xs) = ap (λ (ys : List A). Some ys) (simp append_assoc)

module _ {A : Type 0} (f : Input → Option (A × Input)) (short : Shortens f) where
  -- Any number of steps from the length on is enough.
  items_enough : (n m : ℕ) (i : Input) → length i.left ≤ n → length i.left ≤ m → items_at f n i ≡ items_at f m i
  unfolding items_at
  items_enough zero zero i p q = refl
  items_enough zero (suc m) i p q = let none : eqb (length i.left) 0 ≡ true = eq-eqb _ _ (omega arith) in rw none refl
  items_enough (suc n) zero i p q = let none : eqb (length i.left) 0 ≡ true = eq-eqb _ _ (omega arith) in rw none refl
  items_enough (suc n) (suc m) i p q = ap (cond (eqb (length i.left) 0) (Some []))
      (same_bind (f i) (λ x. items_at f n x.1 >>= λ ys. Some (x.0 ∷ ys)) (λ x. items_at f m x.1 >>= λ ys. Some (x.0 ∷ ys))
      (λ x e. ap (λ (o : Option (List A)). o >>= λ ys. Some (x.0 ∷ ys)) (items_enough n m x.1 (omega (arith, short i x.0 x.1 e)) (omega (arith, short i x.0 x.1 e)))))

  none_left : (i : Input) → i.left ≡ [] → items_at f (length i.left) i ≡ Some []
  unfolding items_at
  none_left i e = rw e refl

  more_at : (n : ℕ) (i : Input) → eqb (length i.left) 0 ≡ false → items_at f (suc n) i ≡ (f i >>= λ x. items_at f n x.1 >>= λ ys. Some (x.0 ∷ ys))
  unfolding items_at
  more_at n i some = rw some refl

  one_more : (n : ℕ) (i : Input) → suc n ≡ length i.left → items_at f (length i.left) i ≡ (f i >>= λ x. items_at f n x.1 >>= λ ys. Some (x.0 ∷ ys))
  one_more n i e = ap (λ (k : ℕ). items_at f k i) (sym e) ∙ more_at n i (ne_eqb (length i.left) 0 (λ d. omega arith))

  some_left : (i : Input) → (i.left ≡ [] → ⊥) → (n : ℕ) × (suc n ≡ length i.left)
  some_left i h = elim (cases_lt 0 (length i.left)) [
    | inl lt ↦ (length i.left - 1, omega arith)
    | inr le ↦ absurd (h (nil_from_length i.left (omega arith)))
  ]

  -- The loop: one more item, an item that is not decodable, and the end.
  pub items_go_on : (front : List A) (i : Input) (x : A) (j : Input) (total : Option (List A)) → (i.left ≡ [] → ⊥) → f i ≡ Some (x, j)
      → with_front front (items_at f (length i.left) i) ≡ total → with_front (front ++ x ∷ []) (items_at f (length j.left) j) ≡ total
  items_go_on front i x j total some e so_far =
      let n = some_left i some in
      let enough : items_at f n.0 j ≡ items_at f (length j.left) j = items_enough n.0 (length j.left) j (omega (arith, short i x j e, n.1)) (omega arith) in
      let one : items_at f (length i.left) i ≡ (items_at f (length j.left) j >>= λ ys. Some (x ∷ ys)) = one_more n.0 i n.1 ∙ rw (e, enough) refl in
      sym (front_more front x (items_at f (length j.left) j)) ∙ (ap (with_front front) (sym one) ∙ so_far)

  pub items_stop : (front : List A) (i : Input) (total : Option (List A)) → (i.left ≡ [] → ⊥) → f i ≡ None → with_front front (items_at f (length i.left) i) ≡ total → total ≡ None
  items_stop front i total some e so_far =
      let n = some_left i some in
      let one : items_at f (length i.left) i ≡ None = one_more n.0 i n.1 ∙ rw e refl in
      sym so_far ∙ ap (with_front front) one

  pub items_end : (front : List A) (i : Input) (total : Option (List A)) → i.left ≡ [] → with_front front (items_at f (length i.left) i) ≡ total → total ≡ Some front
  items_end front i total none so_far =
      sym so_far ∙ (ap (with_front front) (none_left i none) ∙ ap (λ (xs : List A). Some xs) (append-nil front))

  pub items_fault : (front : List A) (i : Input) (total : Option (List A)) (e : CodecFault) (r : Result (List A) CodecFault) (new : Input) → (i.left ≡ [] → ⊥) → GivesOrFull {A = A} f i new (Err e) → with_front front (items_at f (length i.left) i) ≡ total → Finds total (Err e)
  items_fault front i total (faults.Wire d) r new some h so_far = items_stop front i total some h.0 so_far
  items_fault front i total faults.OutOfMemory r new some h so_far = tt
