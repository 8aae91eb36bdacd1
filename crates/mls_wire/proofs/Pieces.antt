-- Pieces that are written whole or not at all.
use Rattle.std.proofs.Common.{◌≡◌, ℕ, ◌+◌, ◌≤◌, List, ◌++◌, length, take, drop, Option, Some, None, Result, Ok, Err, refl, sym, ap, subst, ◌∙◌, take_at, length-append, take-append-drop, arith}
use Rattle.std.specs.Prelude.{IsSome}
use Rattle.mls_wire.specs.declared.fault.CodecFault.{CodecFault}
use Rattle.mls_wire.specs.declared.fault.CodecFault.TheVariants as faults
use Rattle.mls_wire.specs.Faults.{too_long_at}
use Rattle.mls_wire.specs.Encoding.{length_form, vector}
use Rattle.mls_wire.specs.EncodingConcat.{join, no_left}
use Rattle.mls_wire.specs.WriteContracts.{after, WritesPiece, PutsPiece}
use Rattle.mls_wire.specs.WriteContractsInternal.{added}
use Rattle.mls_wire.specs.WriteSequences.{after_then, after_is, grown}

-- an equal text
pub WritesPiece-same : {A : Type 0} (a b : Option (List ℕ)) (old new : List ℕ) (r : Result A CodecFault) → a ≡ b → WritesPiece a old new r → WritesPiece b old new r
WritesPiece-same a b old new r e h = subst (λ (t : Option (List ℕ)). WritesPiece t old new r) e h

-- what has a text
pub some_has : (o : Option (List ℕ)) → IsSome o → (t : List ℕ) × (o ≡ Some t)
some_has None h = absurd cc
some_has (Some t) h = (t, refl)

-- a vector, behind its length
pub vector_has : (body form : List ℕ) → length_form (length body) ≡ Some form → vector body ≡ Some (form ++ body)
unfolding vector
vector_has body form e = join (length_form (length body)) (Some body) form body e refl

-- a vector whose length is refused
pub vector_first : (body old new : List ℕ) (e : CodecFault) → WritesPiece {A = Unit {0}} (length_form (length body)) old new (Err e) → WritesPiece {A = Unit {0}} (vector body) old new (Err e)
unfolding vector
vector_first body old new (faults.Wire f) h = (no_left (length_form (length body)) (Some body) h.0, h.1, h.2)
vector_first body old new faults.OutOfMemory h =
    let form = some_has (length_form (length body)) h.1 in
    (h.0, rw (vector_has body form.0 form.1) refl)

-- a vector whose body stands behind its length
pub vector_second : (body old mid new : List ℕ) → after old (length_form (length body)) ≡ Some mid → after mid (Some body) ≡ Some new → after old (vector body) ≡ Some new
unfolding vector
vector_second body old mid new e f = after_then old (length_form (length body)) (Some body) mid e ∙ f

-- a vector whose body is refused, when its length is taken away again
pub vector_undone : (body old mid more new : List ℕ) (start : ℕ) (e : CodecFault) → start ≡ length old → after old (length_form (length body)) ≡ Some mid → WritesPiece {A = Unit {0}} (Some body) mid more (Err e)
    → new ≡ take start more → WritesPiece {A = Unit {0}} (vector body) old new (Err e)
vector_undone body old mid more new start (faults.Wire f) s e h t = let bad : ◌≡◌ {A = Option (List ℕ)} (Some body) None = h.0 in absurd cc
vector_undone body old mid more new start faults.OutOfMemory s e h t =
    let form = after_is old (length_form (length body)) mid e in
    (t ∙ ap (take start) (h.0 ∙ form.2) ∙ take_at old form.0 start (sym s), rw (vector_has body form.0 form.1) refl)

count_split : (k : ℕ) (xs : List ℕ) → length xs ≡ length (take k xs) + length (drop k xs)
count_split k xs = ap length (sym (take-append-drop k xs)) ∙ length-append (take k xs) (drop k xs)

-- a piece that is written behind what stood before
pub put_piece : {A : Type 0} (text : Option (List ℕ)) (k : ℕ) (old new : List ℕ) (r : Result A CodecFault) → k ≤ length old → WritesPiece text old new r → PutsPiece text (added k old) (added k new) r
put_piece text k old new (Ok x) le h =
    let s = after_is old text new h in
    let g = grown k old s.0 new le s.2 in
    (ap (after (drop k old)) s.1 ∙ g.0, g.1)
put_piece text k old new (Err (faults.Wire f)) le h = (h.0, ap (take k) h.1, h.2 ∙ ap too_long_at (count_split k old))
put_piece text k old new (Err faults.OutOfMemory) le h = (ap (take k) h.0, h.1)

-- nothing is taken away
pub piece_longer : {A : Type 0} (text : Option (List ℕ)) (k : ℕ) (old new : List ℕ) (r : Result A CodecFault) → k ≤ length old → WritesPiece text old new r → k ≤ length new
piece_longer text k old new (Ok x) le h = let s = after_is old text new h in omega (arith, ap length s.2, length-append old s.0)
piece_longer text k old new (Err (faults.Wire f)) le h = rw h.1 le
piece_longer text k old new (Err faults.OutOfMemory) le h = rw h.0 le
