-- What a call that reads by an exact function answers. Internal: no public contract uses this.
use Rattle.std.proofs.Common.{◌≡◌, ℕ, ◌+◌, cond, eqb, List, [], ◌++◌, length, Option, Some, None, Result, Ok, Err, refl, sym, ap, ◌∙◌, arith}
use Rattle.std.specs.Prelude.{IfOk, IsSome}
use Rattle.std.proofs.lemmas.Bool.{eqb-true}
use Rattle.std.proofs.lemmas.List.{append-nil, nil_from_length}
use Rattle.mls_wire.specs.declared.fault.WireFault.{WireFault}
use Rattle.mls_wire.specs.declared.fault.CodecFault.{CodecFault}
use Rattle.mls_wire.specs.declared.fault.CodecFault.TheVariants as faults
use Rattle.mls_wire.specs.Input.{Input, at}
use Rattle.mls_wire.specs.Encoding.{vector, list}
use Rattle.mls_wire.specs.ReadContracts.{Nothing, Reads, ReadsBody, Decodes, DecodesAll, seen}
use Rattle.mls_wire.specs.Parsing.{GivesOrFull, whole_at, body_at, vector_at, list_at}
use Rattle.mls_wire.specs.ParsingInternal.{Gives, Finds}
use Rattle.mls_wire.specs.OptionBind.{bind_some, some_is, allowed, none_of}
use Rattle.mls_wire.specs.ExactParsers.{IsExact, IsLong}
use Rattle.mls_wire.specs.VectorsExact.{body_takes, body_again, vector_exact, no_vector}
use Rattle.mls_wire.specs.ListsExact.{list_exact}

nothing : {A : Type 0} (s : A → Option (List ℕ)) (f : Input → Option (A × Input)) → IsExact s f → (i : Input) → f i ≡ None → Nothing s i
nothing s f exact i none x front rest p e =
    let a = exact.again x front rest i.offset tt p in
    let b : f i ≡ f (at i.offset (front ++ rest)) = ap (λ (t : List ℕ). f (at i.offset t)) e in
    let bad = sym none ∙ (b ∙ a) in absurd cc

-- Reading by an exact function is decoding.
pub Reads-exact : {A : Type 0} (s : A → Option (List ℕ)) (f : Input → Option (A × Input)) → IsExact s f → (old new : Input) (r : Result A WireFault) → Gives f old new r → Reads s old new r
Reads-exact s f exact old new (Ok x) h = (exact.takes old x new h).1
Reads-exact s f exact old new (Err e) h = (nothing s f exact old h.0, h.1)

-- The same for the body of a vector.
pub ReadsBody-exact : (old new : Input) (r : Result Input WireFault) → Gives body_at old new r → ReadsBody old new r
ReadsBody-exact old new (Ok body) h = body_takes old body new h
ReadsBody-exact old new (Err e) h = (nothing vector vector_at vector_exact old (no_vector old h.0), h.1)

-- Decoding gives what an exact function gives.
pub Gives-reads : {A : Type 0} (s : A → Option (List ℕ)) (f : Input → Option (A × Input)) → IsExact s f → (old new : Input) (r : Result A WireFault) → Reads s old new r → Gives f old new r
Gives-reads s f exact old new (Ok x) h =
    let again = exact.again x h.0 new.left old.offset tt h.1 in
    ap (λ (t : List ℕ). f (at old.offset t)) h.2 ∙ again ∙ ap (λ (n : ℕ). Some (x, at n new.left)) (sym h.3)
Gives-reads s f exact old new (Err e) h = (none_of (f old) (λ y p. let t = (exact.takes old y.0 y.1 p).1 in h.0 y.0 t.0 y.1.left t.1 t.2), h.1)

-- The same for the body of a vector.
pub Gives-body : (old new : Input) (r : Result Input WireFault) → ReadsBody old new r → Gives body_at old new r
Gives-body old new (Ok body) h =
    let again = body_again body.left h.0.0 new.left old.offset h.0.1 in
    let there : body_at old ≡ Some (at again.0 body.left, new) = ap (λ (t : List ℕ). body_at (at old.offset t)) h.0.2 ∙ again.1 ∙ ap (λ (n : ℕ). Some (at again.0 body.left, at n new.left)) (sym h.0.3) in
    let ends = (body_takes old (at again.0 body.left) new there).1 in
    let start : again.0 ≡ body.offset = omega (arith, ends, h.1) in
    there ∙ ap (λ (n : ℕ). Some (at n body.left, new)) start
Gives-body old new (Err e) h = (none_of (body_at old) (λ y p. let t = (body_takes old y.0 y.1 p).0 in h.0 y.0.left t.0 y.1.left t.1 t.2), h.1)

-- The same for a call that allocates.
pub Decodes-exact : {A : Type 0} (s : A → Option (List ℕ)) (f : Input → Option (A × Input)) → IsExact s f → (old new : Input) (r : Result A CodecFault) → GivesOrFull f old new r → Decodes s old new r
Decodes-exact s f exact old new (Ok x) h = (exact.takes old x new h).1
Decodes-exact s f exact old new (Err (faults.Wire e)) h = (nothing s f exact old h.0, h.1)
Decodes-exact s f exact old new (Err faults.OutOfMemory) h = h

-- The same for a call that reads a whole input.
pub DecodesAll-exact : {A : Type 0} (s : A → Option (List ℕ)) (f : Input → Option (A × Input)) → IsExact s f → (bytes : List ℕ) (r : Result A CodecFault) → Finds (whole_at f bytes) r → DecodesAll s bytes r
DecodesAll-exact s f exact bytes (Ok x) h =
    let a = bind_some (f (at 0 bytes)) (λ y. cond (eqb (length y.1.left) 0) (Some y.0) None) x h in
    let b = allowed (eqb (length a.0.1.left) 0) (Some a.0.0) x a.2 in
    let none : a.0.1.left ≡ [] = nil_from_length a.0.1.left (eqb-true _ _ b.0) in
    let t = (exact.takes (at 0 bytes) a.0.0 a.0.1 a.1).1 in
    let all : bytes ≡ t.0 = t.2 ∙ ap (λ (r : List ℕ). t.0 ++ r) none ∙ append-nil t.0 in
    ap s (sym (some_is a.0.0 x b.1)) ∙ t.1 ∙ ap (λ (r : List ℕ). Some r) (sym all)
DecodesAll-exact {A = A} s f exact bytes (Err (faults.Wire e)) h = λ x p.
    let a = exact.again x bytes [] 0 tt p in
    let b : f (at 0 bytes) ≡ Some (x, at (0 + length bytes) []) = ap (λ (r : List ℕ). f (at 0 r)) (sym (append-nil bytes)) ∙ a in
    let c : whole_at f bytes ≡ Some x = rw b refl in
    let bad = sym h ∙ c in absurd cc
DecodesAll-exact s f exact bytes (Err faults.OutOfMemory) h = tt

-- A list that was read has an encoding.
pub list_fits : {A X : Type 0} (s : A → Option (List ℕ)) (f : Input → Option (A × Input)) → IsExact s f → IsLong s → (view : X → List A) (old new : Input) (r : Result X CodecFault)
    → GivesOrFull (list_at f) old new (seen view r) → IfOk r (λ v. IsSome (list s (view v)))
list_fits s f exact long view old new (Ok v) h =
    let t = ((list_exact s f exact long).takes old (view v) new h).1 in
    rw t.1 refl
list_fits s f exact long view old new (Err e) h = tt
