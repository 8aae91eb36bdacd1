-- Reading a vector is exact: lemmas. Internal: no public contract uses this.
use Rattle.std.proofs.Common.{◌≡◌, ℕ, ◌+◌, ◌<◌, ◌≤◌, false, cond, ltb, List, ◌++◌, length, take, drop, Some, None, refl, sym, ap, subst, ◌∙◌, append_assoc, arith}
use Rattle.std.proofs.lemmas.Bool.{ltb-false, le-ltb}
use Rattle.std.proofs.lemmas.List.{take_at, drop_at, take-append-drop, length-append, length-take}
use Rattle.mls_wire.specs.Limits.{vector_limit}
use Rattle.mls_wire.specs.Input.{Input, at, skip}
use Rattle.mls_wire.specs.Encoding.{length_form, vector}
use Rattle.mls_wire.specs.ReadContracts.{IsEncodedAt}
use Rattle.mls_wire.specs.Parsing.{length_at, body_at, vector_at}
use Rattle.mls_wire.specs.OptionBind.{bind_some, some_is, guarded}
use Rattle.mls_wire.specs.EncodingConcat.{joined, join}
use Rattle.mls_wire.specs.ExactParsers.{IsExact}
use Rattle.mls_wire.specs.LengthsExact.{length_takes, length_exact, length_below}

-- What is read as a body is encoded as a vector.
pub body_takes : (i b j : Input) → body_at i ≡ Some (b, j) → IsEncodedAt vector b.left i j × (b.offset + length b.left ≡ j.offset)
unfolding body_at vector
body_takes i b j e =
    let a = bind_some (length_at i) (λ n. cond (ltb (length n.1.left) n.0) None (Some (at n.1.offset (take n.0 n.1.left), skip n.0 n.1))) (b, j) e in
    let n = a.0.0 in
    let k = a.0.1 in
    let c = guarded (ltb (length k.left) n) (Some (at k.offset (take n k.left), skip n k)) (b, j) a.2 in
    let t = length_takes i n k a.1 in
    let le : n ≤ length k.left = ltb-false _ _ c.0 in
    let len : length (take n k.left) ≡ n = omega (arith, length-take n k.left) in
    let text : i.left ≡ (t.0 ++ take n k.left) ++ drop n k.left = t.2 ∙ ap (λ (x : List ℕ). t.0 ++ x) (sym (take-append-drop n k.left)) ∙ sym (append_assoc t.0 (take n k.left) (drop n k.left)) in
    subst (λ (x : Input × Input). IsEncodedAt vector x.0.left i x.1 × (x.0.offset + length x.0.left ≡ x.1.offset)) (some_is (at k.offset (take n k.left), skip n k) (b, j) c.1)
    ((t.0 ++ take n k.left, join _ _ t.0 (take n k.left) (rw len t.1) refl, text, omega (arith, t.3, len, length-append t.0 (take n k.left))), omega (arith, len))

-- What is encoded as a vector is read as a body.
pub body_again : (s front rest : List ℕ) (offset : ℕ) → vector s ≡ Some front → (start : ℕ) × (body_at (at offset (front ++ rest)) ≡ Some (at start s, at (offset + length front) rest))
unfolding body_at vector
body_again s front rest offset e =
    let a = joined (length_form (length s)) (Some s) front e in
    let same : s ≡ a.1 = some_is _ _ a.3 in
    let one = length_exact.again (length s) a.0 (s ++ rest) offset tt a.2 in
    let text : front ≡ a.0 ++ s = a.4 ∙ ap (λ (x : List ℕ). a.0 ++ x) (sym same) in
    let regrouped : front ++ rest ≡ a.0 ++ (s ++ rest) = ap (λ (x : List ℕ). x ++ rest) text ∙ append_assoc a.0 s rest in
    let long : ltb (length (s ++ rest)) (length s) ≡ false = le-ltb _ _ (omega (arith, length-append s rest)) in
    let end : (offset + length a.0) + length s ≡ offset + length front = omega (arith, length-append a.0 s, ap length text) in
    (offset + length a.0, ap (λ (x : List ℕ). body_at (at offset x)) regrouped ∙ rw (one, long, take_at s rest (length s) refl, drop_at s rest (length s) refl) (ap (λ (x : ℕ). Some (at (offset + length a.0) s, at x rest)) end))

-- Reading a vector is exact.
pub vector_exact : IsExact vector vector_at
unfolding vector_at
vector_exact = record {
  takes = λ i s j e.
      let a = bind_some (body_at i) (λ body. Some (body.0.left, body.1)) (s, j) e in
      let t = body_takes i a.0.0 a.0.1 a.1 in
      (tt, subst (λ (x : List ℕ × Input). IsEncodedAt vector x.0 i x.1) (some_is (a.0.0.left, a.0.1) (s, j) a.2) t.0);
  again = λ s front rest offset p e. let b = body_again s front rest offset e in rw b.1 refl;
}

-- A body that has an encoding as a vector is within the limit.
pub vector_within : (s front : List ℕ) → vector s ≡ Some front → length s ≤ vector_limit
unfolding vector
vector_within s front e =
    let a = joined (length_form (length s)) (Some s) front e in
    let b = length_below (length s) a.0 a.2 in
    omega arith

-- A vector has at least one byte.
pub vector_long : (s front : List ℕ) → vector s ≡ Some front → 0 < length front
unfolding vector
vector_long s front e =
    let a = joined (length_form (length s)) (Some s) front e in
    let b = length_below (length s) a.0 a.2 in
    omega (arith, ap length a.4, length-append a.0 a.1)

-- Without a body there is no vector.
pub no_vector : (i : Input) → body_at i ≡ None → vector_at i ≡ None
unfolding vector_at
no_vector i e = rw e refl
