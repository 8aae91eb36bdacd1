-- Signatures to verify as a list stores them: without the group id, if what is signed has it before its last four bytes. So
-- LeafNodeTBS ends for update and commit (RFC 9420, 7.2). Internal: no public contract uses this. `g`: the group id.
use Rattle.std.specs.Prelude.{◌≡◌, ℕ, ◌+◌, ◌-◌, ◌&&◌, nat_le, if◌then◌else◌, Bool, List, ◌++◌, length, take, drop, map, All}
use Rattle.std.specs.Str.{bytes_eq}
use Rattle.mls_signatures.specs.declared.shortened_signature.ShortenedSignature.{ShortenedSignature}
use Rattle.mls_signatures.specs.declared.signature_to_verify.SignatureToVerify.{SignatureToVerify}

-- ---- what is signed

-- `has_group_id g content`: the bytes before the last four of `content` are the group id.
abbrev pub has_group_id : List ℕ → List ℕ → Bool
has_group_id g content =
    nat_le (length g + 4) (length content)
    && bytes_eq (take (length g) (drop (length content - (length g + 4)) content)) g

-- `without_group_id g content` is `content` without as many bytes before its last four as the group id has.
abbrev pub without_group_id : List ℕ → List ℕ → List ℕ
without_group_id g content =
    take (length content - (length g + 4)) content ++ drop (length content - 4) content

-- `with_group_id g bytes` is `bytes` with the group id before its last four.
abbrev pub with_group_id : List ℕ → List ℕ → List ℕ
with_group_id g bytes = take (length bytes - 4) bytes ++ (g ++ drop (length bytes - 4) bytes)

-- `shortened_content g content` is `content` as a list stores it.
abbrev pub shortened_content : List ℕ → List ℕ → List ℕ
shortened_content g content = if has_group_id g content then without_group_id g content else content

-- `restored_content g b bytes` is what is signed, of which a list stores `bytes`; `b`: whether the group id is left out.
abbrev pub restored_content : List ℕ → Bool → List ℕ → List ℕ
restored_content g b bytes = if b then with_group_id g bytes else bytes

-- ---- signatures

-- `shortened g q` is the signature `q` as a list stores it.
abbrev pub shortened : List ℕ → SignatureToVerify → ShortenedSignature
shortened g q = record {
  suite = q.suite;
  is_shortened = has_group_id g q.content;
  key_len = length q.key;
  signature_len = length q.signature;
  bytes = q.key ++ (q.signature ++ shortened_content g q.content);
}

-- `restored g x` is the signature of which a list stores `x`.
abbrev pub restored : List ℕ → ShortenedSignature → SignatureToVerify
restored g x = record {
  suite = x.suite;
  key = take x.key_len x.bytes;
  content = restored_content g x.is_shortened (drop (x.key_len + x.signature_len) x.bytes);
  signature = take x.signature_len (drop x.key_len x.bytes);
}

-- `restored_all g xs` is the signatures of which a list stores `xs`.
abbrev pub restored_all : List ℕ → List ShortenedSignature → List SignatureToVerify
restored_all g xs = map (restored g) xs

-- `IsShortened g x`: the signature of which a list stores `x` is stored so.
abbrev pub IsShortened : List ℕ → ShortenedSignature → Type 0
IsShortened g x = shortened g (restored g x) ≡ x

-- `AreShortened g xs`: each of `xs` is stored so.
abbrev pub AreShortened : List ℕ → List ShortenedSignature → Type 0
AreShortened g xs = All (IsShortened g) xs
