-- Transcript hashes, by the bytes that are written for the tag.
use Rattle.std.proofs.Common.{◌≡◌, ◌++◌, ℕ, List, [], Option, Some, None, refl}
use Rattle.std.proofs.lemmas.Option.{none-some}
use Rattle.mls_wire.specs.Encoding.{vector}
use Rattle.mls_wire.specs.WriteContracts.{after}
use Rattle.mls_apply.specs.Transcript.{interim_hash}

written : (text : Option (List ℕ)) (bytes : List ℕ) → after [] text ≡ Some bytes → text ≡ Some bytes
unfolding after
written None bytes e = absurd (none-some bytes e)
written (Some x) bytes e = e

-- the interim transcript hash, by the bytes that are written for the tag
pub interim_from : (H : List ℕ → List ℕ) (confirmed bytes hash tag : List ℕ) → after [] (vector tag) ≡ Some bytes → hash ≡ H (confirmed ++ bytes)
    → interim_hash H confirmed (Some tag) ≡ Some hash
unfolding interim_hash
interim_from H confirmed bytes hash tag w h = rw (written (vector tag) bytes w, h) refl
