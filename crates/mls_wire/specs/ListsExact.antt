-- Reading a list is exact. Internal: no public contract uses this.
use Rattle.std.proofs.Common.{◌≡◌, ℕ, zero, suc, ◌+◌, ◌<◌, ◌≤◌, true, false, eqb, List, [], ◌∷◌, ◌++◌, length, Option, Some, None, refl, sym, ap, subst, ◌∙◌, arith, inl, inr}
use Rattle.std.proofs.lemmas.Bool.{eqb-true, ne_eqb}
use Rattle.std.proofs.lemmas.List.{length-append, nil_from_length}
use Rattle.mls_wire.specs.Input.{Input, at}
use Rattle.mls_wire.specs.Encoding.{vector, sized, items, list}
use Rattle.mls_wire.specs.ReadContracts.{IsEncodedAt}
use Rattle.mls_wire.specs.Parsing.{◌>>=◌, body_at, items_at, list_at}
use Rattle.mls_wire.specs.OptionBind.{bind_some, some_is, allowed, chosen_parts, none_of}
use Rattle.mls_wire.specs.EncodingConcat.{joined, join}
use Rattle.mls_wire.specs.ExactParsers.{IsExact, IsLong}
use Rattle.mls_wire.specs.VectorsExact.{body_takes, body_again, vector_long}

-- A vector that has an encoding has a body that has one.
pub sized_parts : (body : Option (List ℕ)) (front : List ℕ) → sized body ≡ Some front → (s : List ℕ) × (body ≡ Some s) × (vector s ≡ Some front)
unfolding sized
sized_parts None front e = absurd cc
sized_parts (Some s) front e = (s, refl, e)

-- A vector of a body that has an encoding.
pub sized_of : (body : Option (List ℕ)) (s : List ℕ) → body ≡ Some s → sized body ≡ vector s
unfolding sized
sized_of body s e = rw e refl

-- A list has at least one byte.
pub list_long : {A : Type 0} (s : A → Option (List ℕ)) (xs : List A) (front : List ℕ) → list s xs ≡ Some front → 0 < length front
unfolding list
list_long s xs front e = let a = sized_parts (items s xs) front e in vector_long a.0 front a.2

not_nil : (n : ℕ) → 0 < n → eqb n 0 ≡ false
not_nil n lt = ne_eqb n 0 (λ e. omega arith)

module _ {A : Type 0} (s : A → Option (List ℕ)) (f : Input → Option (A × Input)) (exact : IsExact s f) where
  no_items : (i : Input) (xs : List A) → eqb (length i.left) 0 ≡ true → ◌≡◌ {A = Option (List A)} (Some []) (Some xs) → items s xs ≡ Some i.left
  unfolding items
  no_items i xs p e =
      let none : i.left ≡ [] = nil_from_length i.left (eqb-true _ _ p) in
      subst (λ (x : List A). items s x ≡ Some i.left) (some_is [] xs e) (rw none refl)

  pub items_take : (n : ℕ) (i : Input) (xs : List A) → items_at f n i ≡ Some xs → items s xs ≡ Some i.left
  unfolding items_at items
  items_take zero i xs e =
      let a = allowed (eqb (length i.left) 0) (Some []) xs e in
      no_items i xs a.0 a.1
  items_take (suc n) i xs e =
      elim (chosen_parts (eqb (length i.left) 0) (Some []) (f i >>= λ x. items_at f n x.1 >>= λ ys. Some (x.0 ∷ ys)) xs e) [
        | inl a ↦ no_items i xs a.0 a.1
        | inr a ↦
            let b = bind_some (f i) (λ x. items_at f n x.1 >>= λ ys. Some (x.0 ∷ ys)) xs a.1 in
            let c = bind_some (items_at f n b.0.1) (λ ys. Some (b.0.0 ∷ ys)) xs b.2 in
            let t = (exact.takes i b.0.0 b.0.1 b.1).1 in
            let others = items_take n b.0.1 c.0 c.1 in
            subst (λ (x : List A). items s x ≡ Some i.left) (some_is (b.0.0 ∷ c.0) xs c.2) (join _ _ _ _ t.1 others ∙ ap (λ (x : List ℕ). Some x) (sym t.2))
      ]

  pub items_again : IsLong s → (xs : List A) (n : ℕ) (offset : ℕ) (text : List ℕ) → length text ≤ n → items s xs ≡ Some text → items_at f n (at offset text) ≡ Some xs
  unfolding items_at items
  items_again long [] zero offset text le e = let none = some_is _ _ e in rw (← none) refl
  items_again long [] (suc n) offset text le e = let none = some_is _ _ e in rw (← none) refl
  items_again long (x ∷ xs) zero offset text le e =
      let a = joined (s x) (items s xs) text e in
      absurd (omega (arith, long x a.0 a.2, ap length a.4, length-append a.0 a.1))
  items_again long (x ∷ xs) (suc n) offset text le e =
      let a = joined (s x) (items s xs) text e in
      let first = long x a.0 a.2 in
      let one = exact.again x a.0 a.1 offset tt a.2 in
      let others = items_again long xs n (offset + length a.0) a.1 (omega (arith, first, ap length a.4, length-append a.0 a.1)) a.3 in
      let some : eqb (length (a.0 ++ a.1)) 0 ≡ false = not_nil _ (omega (arith, first, length-append a.0 a.1)) in
      rw (a.4, some, one, others) refl

  pub list_exact : IsLong s → IsExact (list s) (list_at f)
  unfolding list_at list
  list_exact long = record {
    takes = λ i xs j e.
        let a = bind_some (body_at i) (λ body. items_at f (length body.0.left) body.0 >>= λ ys. Some (ys, body.1)) (xs, j) e in
        let b = bind_some (items_at f (length a.0.0.left) a.0.0) (λ ys. Some (ys, a.0.1)) (xs, j) a.2 in
        let t = (body_takes i a.0.0 a.0.1 a.1).0 in
        let whole : sized (items s b.0) ≡ Some t.0 = sized_of _ _ (items_take (length a.0.0.left) a.0.0 b.0 b.1) ∙ t.1 in
        (tt, subst (λ (x : List A × Input). IsEncodedAt (list s) x.0 i x.1) (some_is (b.0, a.0.1) (xs, j) b.2) (t.0, whole, t.2, t.3));
    again = λ xs front rest offset p e.
        let a = sized_parts (items s xs) front e in
        let b = body_again a.0 front rest offset a.2 in
        let c = items_again long xs (length a.0) b.0 a.0 (omega arith) a.1 in
        rw (b.1, c) refl;
  }

module _ {A : Type 0} (s : A → Option (List ℕ)) (f : Input → Option (A × Input)) (exact : IsExact s f) where
  pub list_uneven : (i b j : Input) → body_at i ≡ Some (b, j) → ((xs : List A) (t : List ℕ) → items s xs ≡ Some t → length t ≡ length b.left → ⊥) → list_at f i ≡ None
  unfolding list_at
  list_uneven i b j e h =
      let none : items_at f (length b.left) b ≡ None = none_of _ (λ xs p. h xs b.left (items_take s f exact (length b.left) b xs p) refl) in
      rw (e, none) refl

-- Bytes that are not empty encode at least one item.
pub items_some : {A : Type 0} (s : A → Option (List ℕ)) (f : Input → Option (A × Input)) → IsExact s f → (i : Input) (ys : List A) → (i.left ≡ [] → ⊥) → items_at f (length i.left) i ≡ Some ys → 0 < length ys
unfolding items
items_some s f exact i [] some e = absurd (some (sym (some_is [] i.left (items_take s f exact (length i.left) i [] e))))
items_some s f exact i (y ∷ ys) some e = omega arith
