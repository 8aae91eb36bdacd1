-- Parts of an encoded file, files that are equal, and which file a state has.
use Rattle.std.proofs.Common.{◌≡◌, ◌+◌, ◌-◌, ◌^◌, ◌<◌, ◌≤◌, ℕ, List, ◌++◌, length, drop, append_assoc, Option, Some, None, Result, Ok, Err, refl, sym, ◌∙◌, ap, arith}
use Rattle.std.proofs.lemmas.List.{drop_at, length-append}
use Rattle.std.specs.Int.{w16}
use Rattle.sha2.specs.Sha256.{sha256}
use Rattle.mls_wire.specs.Encoding.{◌⊕◌, number, vector}
use Rattle.mls_wire.specs.EncodingConcat.{joined}
use Rattle.mls_wire.specs.ExactTheorems.{unambiguous}
use Rattle.mls_wire.specs.EncodedSizes.{sized_text, sized_none_text}
use Rattle.mls_wire.specs.OptionBind.{some_is}
use Rattle.mls_wire.specs.SaturatingSizes.{size}
use Rattle.mls_wire.specs.WriteContracts.{MakesPiece}
use Rattle.mls_wire.specs.declared.fault.CodecFault.{CodecFault}
use Rattle.mls_wire.specs.declared.fault.CodecFault.TheVariants as codec
use Rattle.mls_state.specs.Layout.{follower_state, state_file}
use Rattle.mls_state.specs.Parsing.{state_file_at}
use Rattle.mls_state.specs.StateExact.{state_file_exact}
use Rattle.mls_state.specs.StateFile.{HasChecksum, IsFileOf, MakesStateFile}
use Rattle.mls_state.specs.StateFileInternal.{MakesChecksum}
use Rattle.mls_state.specs.declared.file.StateFile.{StateFile}
use Rattle.mls_state.specs.declared.state.FollowerState.{FollowerState}

-- the state of a file that has an encoding has one
pub state_encoded : (f : StateFile) (bytes : List ℕ) → state_file f ≡ Some bytes → (body : List ℕ) × (follower_state f.state ≡ Some body)
unfolding state_file
state_encoded f bytes e =
    let a = joined (number w16 2) (vector f.checksum ⊕ follower_state f.state) bytes e in
    let b = joined (vector f.checksum) (follower_state f.state) a.1 a.3 in
    (b.1, b.3)

-- the state of a file that has an encoding has a size
pub state_sized : (f : StateFile) (bytes : List ℕ) → state_file f ≡ Some bytes → None ≡ size (follower_state f.state) → ⊥
state_sized f bytes e none =
    let encoded = state_encoded f bytes e in
    let nothing : follower_state f.state ≡ None = sized_none_text (follower_state f.state) none in
    absurd cc

-- the encoded state is the end of the file
pub state_last : (f : StateFile) (bytes : List ℕ) (n : ℕ) → state_file f ≡ Some bytes → Some n ≡ size (follower_state f.state)
    → length bytes < 2 ^ 64
    → (n ≤ length bytes) × (follower_state f.state ≡ Some (drop (length bytes - n) bytes))
unfolding state_file
state_last f bytes n e sized lt =
    let a = joined (number w16 2) (vector f.checksum ⊕ follower_state f.state) bytes e in
    let b = joined (vector f.checksum) (follower_state f.state) a.1 a.3 in
    let text = sized_text (follower_state f.state) n sized in
    let same : text.0 ≡ b.1 = some_is _ _ (sym text.1 ∙ b.3) in
    let whole : bytes ≡ (a.0 ++ b.0) ++ b.1 = a.4 ∙ ap (λ (t : List ℕ). a.0 ++ t) b.4 ∙ sym (append_assoc a.0 b.0 b.1) in
    let long : length bytes ≡ length (a.0 ++ b.0) + length b.1 = ap length whole ∙ length-append (a.0 ++ b.0) b.1 in
    let rest : n ≡ length b.1 = omega (arith, ap length same, text.2, long, lt) in
    let front : length (a.0 ++ b.0) ≡ length bytes - n = omega (arith, long, rest) in (
      omega (arith, long, rest),
      b.3 ∙ ap (λ (t : List ℕ). Some t) (sym (ap (drop (length bytes - n)) whole ∙ drop_at (a.0 ++ b.0) b.1 (length bytes - n) front)),
    )

-- whether the checksum is the digest of the end of the file, which is the encoded state
pub is_digest : (f : StateFile) (body : List ℕ) → follower_state f.state ≡ Some body → (f.checksum ≡ sha256 body) → HasChecksum f
is_digest f body e digest = record { body = body; encoded = e; digest = digest }

pub has_digest : (f : StateFile) (body : List ℕ) → follower_state f.state ≡ Some body → HasChecksum f → f.checksum ≡ sha256 body
has_digest f body e checked =
    let same : checked.body ≡ body = some_is _ _ (sym checked.encoded ∙ e) in
    checked.digest ∙ ap sha256 same

-- files of one checksum and one state are one
same_file : (f g : StateFile) → f.checksum ≡ g.checksum → f.state ≡ g.state → f ≡ g
same_file f g p q = rw (← p, ← q) refl

pub state_is_unique : (bytes : List ℕ) (s t : FollowerState) → IsFileOf bytes s → IsFileOf bytes t → s ≡ t
state_is_unique bytes s t a b =
    let same : a.file ≡ b.file = (unambiguous state_file state_file_at state_file_exact).once a.file b.file bytes a.encoded b.encoded in
    sym a.state ∙ ap (λ (f : StateFile). f.state) same ∙ b.state

pub file_is_unique : (x y : List ℕ) (s : FollowerState) → IsFileOf x s → IsFileOf y s → x ≡ y
file_is_unique x y s a b =
    let state : a.file.state ≡ b.file.state = a.state ∙ sym b.state in
    let body : a.checked.body ≡ b.checked.body = some_is _ _ (sym a.checked.encoded ∙ ap follower_state state ∙ b.checked.encoded) in
    let checksum : a.file.checksum ≡ b.file.checksum = a.checked.digest ∙ ap sha256 body ∙ sym b.checked.digest in
    some_is _ _ (sym a.encoded ∙ ap state_file (same_file a.file b.file checksum state) ∙ b.encoded)

-- a digest that was made is that of the encoded state
digest_of : (encoding : Option (List ℕ)) (digest : List ℕ) → MakesChecksum encoding (Ok digest)
    → (body : List ℕ) × (encoding ≡ Some body) × (digest ≡ sha256 body)
digest_of None digest made = absurd made
digest_of (Some body) digest made = (body, refl, made)

-- a file with the digest of its state is the file of the state
checksum_made : (f : StateFile) → MakesChecksum (follower_state f.state) (Ok f.checksum) → HasChecksum f
checksum_made f made =
    let digest = digest_of (follower_state f.state) f.checksum made in
    record { body = digest.0; encoded = digest.1; digest = digest.2 }

-- a state has no file if the one with its checksum has no encoding
none_is_file : (f : StateFile) → HasChecksum f → state_file f ≡ None → (bytes : List ℕ) → IsFileOf bytes f.state → ⊥
none_is_file f checked none bytes file =
    let body : file.checked.body ≡ checked.body = some_is _ _ (sym file.checked.encoded ∙ ap follower_state file.state ∙ checked.encoded) in
    let checksum : file.file.checksum ≡ f.checksum = file.checked.digest ∙ ap sha256 body ∙ sym checked.digest in
    let encoded : Some bytes ≡ None = sym file.encoded ∙ ap state_file (same_file file.file f checksum file.state) ∙ none in
    absurd cc

-- what encodes the state with its digest is the file of the state
pub file_made : (f : StateFile) (result : Result (List ℕ) CodecFault) → MakesChecksum (follower_state f.state) (Ok f.checksum)
    → MakesPiece (state_file f) result → MakesStateFile f.state result
file_made f (Ok bytes) made encoded =
    record { file = f; state = refl; checked = checksum_made f made; encoded = encoded }
file_made f (Err (codec.Wire e)) made none =
    (none_is_file f (checksum_made f made) none.0, ap (λ x. x.kind) none.1)
file_made f (Err codec.OutOfMemory) made none = tt
