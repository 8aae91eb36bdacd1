-- A part that cannot be read makes the whole one that cannot be read.
use Rattle.std.proofs.Common.{◌≡◌, ℕ, List, [], true, Option, Some, None, Err, refl, ap}
use Rattle.std.specs.Prelude.{IsTrue}
use Rattle.std.specs.Int.{w16}
use Rattle.std.proofs.lemmas.List.{append-nil}
use Rattle.mls_wire.specs.Input.{Input}
use Rattle.mls_wire.specs.Parsing.{GivesOrFull}
use Rattle.mls_wire.specs.WriteContracts.{after}
use Rattle.mls_wire.specs.Encoding.{number}
use Rattle.mls_msgs.specs.Authenticated.{is_frame_format, frame_format}
use Rattle.mls_wire.specs.declared.fault.CodecFault.{CodecFault}
use Rattle.mls_wire.specs.declared.fault.CodecFault.TheVariants as faults

-- the answer at a part's fault, where the reader stays before the whole
pub refused : {A B : Type 0} (whole : Input → Option (B × Input)) (part : Input → Option (A × Input)) (old at new : Input) (e : CodecFault)
    → GivesOrFull {A = A} part at new (Err e) → (part at ≡ None → whole old ≡ None) → GivesOrFull {A = B} whole old old (Err e)
refused whole part old at new (faults.Wire f) h none = (none h.0, refl)
refused whole part old at new faults.OutOfMemory h none = refl

-- nothing is added
pub after_nothing : (old : List ℕ) → after old (Some []) ≡ Some old
unfolding after
after_nothing old = ap (λ (s : List ℕ). Some s) (append-nil old)

-- a wire format that frames contents is spelled as a number
pub frame_format_fits : (n : ℕ) → IsTrue (is_frame_format n) → frame_format n ≡ number w16 n
unfolding frame_format
frame_format_fits n fits = let holds : is_frame_format n ≡ true = fits in rw holds refl
