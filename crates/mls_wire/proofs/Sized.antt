-- Writing values whose size is known.
use Rattle.std.proofs.Common.{◌≡◌, ℕ, List, [], length, Option, Some, None, Result, Ok, Err, refl, sym, ap, ◌∙◌}
use Rattle.std.specs.Prelude.{IsSome, IsTrue, is_some, ◌↔◌}
use Rattle.mls_wire.specs.declared.fault.CodecFault.{CodecFault}
use Rattle.mls_wire.specs.declared.fault.CodecFault.TheVariants as faults
use Rattle.mls_wire.specs.Faults.{too_long_at}
use Rattle.mls_wire.specs.Encoding.{length_form, vector, items, list}
use Rattle.mls_wire.specs.EncodingConcat.{no_left}
use Rattle.mls_wire.specs.SaturatingSizes.{size}
use Rattle.mls_wire.specs.EncodedSizes.{sized_text, list_sized, counted_form}
use Rattle.mls_wire.specs.WriteSequences.{after_then}
use Rattle.mls_wire.specs.WriteContracts.{after, Added, Puts, PutsPiece, WritesPiece, MakesPiece}
use Rattle.mls_wire.proofs.Pieces.{some_has, vector_has}

-- what has a size has a text
pub sized_some : (text : Option (List ℕ)) (n : ℕ) → Some n ≡ size text → IsSome text
sized_some text n e = let t = sized_text text n e in rw t.1 refl

-- it is not refused for being too long
not_long : (text : Option (List ℕ)) (n : ℕ) → Some n ≡ size text → text ≡ None → ⊥
not_long text n e none = let t = sized_text text n e in let bad = sym none ∙ t.1 in absurd cc

-- whether there is a size
pub is_sized : (o : Option ℕ) (text : Option (List ℕ)) → o ≡ size text → IsTrue (is_some o) ↔ IsSome text
unfolding size
is_sized o None e = rw e (λ t. absurd cc, λ h. absurd cc)
is_sized o (Some t) e = rw e (λ t. refl, λ h. refl)

-- a refused value leaves what stood before
pub put_undone : (e : CodecFault) (text : Option (List ℕ)) (n : ℕ) (old whole : List ℕ) (start new : Added) → Some n ≡ size text → Puts {A = Unit {0}} text start new (Err e) → start.kept ≡ old → whole ≡ new.kept → WritesPiece {A = Unit {0}} text old whole (Err e)
put_undone (faults.Wire f) text n old whole start new e h k w = absurd (not_long text n e h.0)
put_undone faults.OutOfMemory text n old whole start new e h k w = (w ∙ h ∙ k, sized_some text n e)

-- what was written behind nothing
pub made_piece : (e : CodecFault) (text : Option (List ℕ)) (old new : List ℕ) → old ≡ [] → WritesPiece {A = Unit {0}} text old new (Err e) → MakesPiece text (Err e)
made_piece (faults.Wire f) text old new none h = (h.0, h.2 ∙ ap (λ (x : List ℕ). too_long_at (length x)) none)
made_piece faults.OutOfMemory text old new none h = h.1

-- what was added is a text
added_text : (old : List ℕ) (o : Option (List ℕ)) (new : List ℕ) → after old o ≡ Some new → IsSome o
unfolding after
added_text old None new e = absurd cc
added_text old (Some t) new e = refl

module _ {A : Type 0} (s : A → Option (List ℕ)) where
  -- a vector of the items, where their length has a form
  has_list : (xs : List A) (n : ℕ) → Some n ≡ size (items s xs) → IsSome (length_form n) → IsSome (list s xs)
  has_list xs n e h =
      let a = list_sized s xs n e in
      let form = some_has (length_form n) h in
      let same : length_form (length a.0) ≡ Some form.0 = sym (counted_form (length a.0)) ∙ ap length_form a.2 ∙ form.1 in
      rw (a.3, vector_has a.0 form.0 same) refl

  -- where the length of the items is refused, the list is
  pub length_refused : (e : CodecFault) (xs : List A) (n : ℕ) (old new : Added) → Some n ≡ size (items s xs) → PutsPiece {A = Unit {0}} (length_form n) old new (Err e) → PutsPiece {A = Unit {0}} (list s xs) old new (Err e)
  unfolding vector
  length_refused (faults.Wire f) xs n old new e h =
      let a = list_sized s xs n e in
      let none : length_form (length a.0) ≡ None = sym (counted_form (length a.0)) ∙ ap length_form a.2 ∙ h.0 in
      (a.3 ∙ no_left (length_form (length a.0)) (Some a.0) none, h.1, h.2)
  length_refused faults.OutOfMemory xs n old new e h = (h.0, has_list xs n e h.1)

  -- the items behind their length
  pub items_behind : (r : Result (Unit {0}) CodecFault) (xs : List A) (n : ℕ) (old mid new : Added) → Some n ≡ size (items s xs) → after old.more (length_form n) ≡ Some mid.more → mid.kept ≡ old.kept → Puts {A = Unit {0}} (items s xs) mid new r → PutsPiece {A = Unit {0}} (list s xs) old new r
  unfolding vector
  items_behind (Ok x) xs n old mid new e front k h =
      let a = list_sized s xs n e in
      let form : length_form n ≡ length_form (length a.0) = ap length_form (sym a.2) ∙ counted_form (length a.0) in
      let first : after old.more (length_form (length a.0)) ≡ Some mid.more = ap (after old.more) (sym form) ∙ front in
      let second : after mid.more (Some a.0) ≡ Some new.more = ap (after mid.more) (sym a.1) ∙ h.0 in
      (ap (after old.more) a.3 ∙ after_then old.more (length_form (length a.0)) (Some a.0) mid.more first ∙ second, h.1 ∙ k)
  items_behind (Err (faults.Wire f)) xs n old mid new e front k h = absurd (not_long (items s xs) n e h.0)
  items_behind (Err faults.OutOfMemory) xs n old mid new e front k h = (h ∙ k, has_list xs n e (added_text old.more (length_form n) mid.more front))
