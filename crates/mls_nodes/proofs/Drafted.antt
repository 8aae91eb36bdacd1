-- What is written into a draft that begins empty.
use Rattle.std.proofs.Common.{◌≡◌, ◌∙◌, ◌++◌, ◌<◌, ◌≤◌, ℕ, List, [], length, Option, Some, None, Err, ap, arith}
use Rattle.std.specs.Prelude.{IsSome}
use Rattle.mls_wire.specs.SaturatingSizes.{size}
use Rattle.mls_wire.specs.Faults.{too_long_at}
use Rattle.mls_wire.specs.Limits.{vector_limit}
use Rattle.mls_wire.specs.Encoding.{items, list, vector}
use Rattle.mls_wire.specs.EncodedSizes.{list_sized, size_long, sized_none_text, vector_some}
use Rattle.mls_wire.specs.WriteContracts.{after, Added, Puts, PutsPiece, MakesPiece}
use Rattle.mls_wire.specs.WriteSequences.{after_nil, put_behind}
use Rattle.mls_wire.specs.declared.fault.CodecFault.{CodecFault}
use Rattle.mls_wire.specs.declared.fault.CodecFault.TheVariants as faults

-- the text that was put, which is all that stands
pub drafted : (text : Option (List ℕ)) (old new : Added) (whole : List ℕ) → old.kept ≡ [] → old.more ≡ []
    → (after old.more text ≡ Some new.more) × (new.kept ≡ old.kept) → whole ≡ new.kept ++ new.more → text ≡ Some whole
drafted text old new whole kept more put all = after_nil text whole (put_behind text [] new.kept new.more old.more whole put.0 more (put.1 ∙ kept) all)

not_none : (text : Option (List ℕ)) → IsSome text → text ≡ None → ⊥
not_none None there none = absurd cc
not_none (Some t) there none = absurd cc

-- a text that has a spelling is refused for want of memory alone
pub undrafted : (e : CodecFault) (text : Option (List ℕ)) (old new : Added) → IsSome text → Puts {A = Unit {0}} text old new (Err e) → MakesPiece text (Err e)
undrafted (faults.Wire f) text old new there put = absurd (not_none text there put.0)
undrafted faults.OutOfMemory text old new there put = there

-- a piece that is refused
pub undrafted_piece : (e : CodecFault) (text : Option (List ℕ)) (old new : Added) → old.kept ≡ [] → old.more ≡ [] → PutsPiece {A = Unit {0}} text old new (Err e) → MakesPiece text (Err e)
undrafted_piece (faults.Wire f) text old new kept more put =
    (put.0, put.2 ∙ ap too_long_at (omega (arith, ap length kept, ap length more)))
undrafted_piece faults.OutOfMemory text old new kept more put = put.1

-- items within the limit of a vector fit into one
pub list_there : {A : Type 0} (s : A → Option (List ℕ)) (xs : List A) (n : ℕ) → Some n ≡ size (items s xs) → n ≤ vector_limit → IsSome (list s xs)
list_there s xs n e le = let a = list_sized s xs n e in rw a.3 (vector_some a.0 (omega (arith, a.2)))

-- and items over that limit into none
pub list_over : {A : Type 0} (s : A → Option (List ℕ)) (xs : List A) (n : ℕ) → Some n ≡ size (items s xs) → vector_limit < n → list s xs ≡ None
list_over s xs n e lt = let a = list_sized s xs n e in a.3 ∙ sized_none_text (vector a.0) (size_long a.0 n a.2 lt)
