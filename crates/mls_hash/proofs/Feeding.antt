-- Encodings that are fed to a hasher one after the other.
use Rattle.std.proofs.Common.{◌≡◌, ℕ, List, [], ◌++◌, ◌<◌, length, Option, Some, None, refl, sym, ap, ◌∙◌, subst, append_assoc, arith}
use Rattle.std.specs.Prelude.{option_map}
use Rattle.mls_wire.specs.Encoding.{◌⊕◌, length_form, vector}
use Rattle.mls_wire.specs.LengthsExact.{no_length}
use Rattle.mls_wire.specs.EncodingConcat.{join, no_left, regrouped}
use Rattle.mls_hash.specs.declared.hasher.Hasher.{Hasher}
use Rattle.mls_hash.specs.HasherModel.{HoldsMessage, HoldsMore, IsFed}

-- bytes that are an encoding
pub bytes_held : (text : Option (List ℕ)) (bytes : List ℕ) (old new : Hasher) → text ≡ Some bytes → IsFed bytes old new → HoldsMore text old new
bytes_held text bytes old new e fed H m h = (bytes, e, fed H m h)

-- one encoding, and then another
pub both_held : (a b : Option (List ℕ)) (old mid new : Hasher) → HoldsMore a old mid → HoldsMore b mid new → HoldsMore (a ⊕ b) old new
both_held a b old mid new first second H m h =
    let f = first H m h in
    let s = second H (m ++ f.0) f.2 in
    (f.0 ++ s.0, join a b f.0 s.0 f.1 s.1, subst (λ (x : List ℕ). HoldsMessage H new x) (append_assoc m f.0 s.0) s.2)

-- a vector: its length, and its body
pub vector_held : (body : List ℕ) (old mid new : Hasher) → HoldsMore (length_form (length body)) old mid → IsFed body mid new → HoldsMore (vector body) old new
unfolding vector
vector_held body old mid new first then_body = both_held (length_form (length body)) (Some body) old mid new first (bytes_held (Some body) body mid new refl then_body)

-- a body that is too long
pub no_vector : (body : List ℕ) → 1073741823 < length body → vector body ≡ None
unfolding vector
no_vector body long = no_left (length_form (length body)) (Some body) (no_length (length body) (omega arith))

-- the hash of all that was fed
pub hash_held : (H : List ℕ → List ℕ) (text : Option (List ℕ)) (old new : Hasher) (result : List ℕ) → HoldsMessage H old [] → HoldsMore text old new
    → ((m : List ℕ) → HoldsMessage H new m → result ≡ H m) → option_map H text ≡ Some result
hash_held H text old new result none more end =
    let f = more H [] none in
    ap (λ (o : Option (List ℕ)). option_map H o) f.1 ∙ ap (λ (r : List ℕ). Some r) (sym (end f.0 f.2))

-- three encodings, of which the first two are one, and of which the last two are one
pub first_two_held : (a b c : Option (List ℕ)) (old new : Hasher) → HoldsMore ((a ⊕ b) ⊕ c) old new → HoldsMore (a ⊕ b ⊕ c) old new
first_two_held a b c old new = subst (λ (t : Option (List ℕ)). HoldsMore t old new) (regrouped a b c)
