-- Whether bytes are printable text.
use Rattle.std.proofs.Common.{◌≡◌, ℕ, List, Bool, true, false, length, IsUtf8, refl, ap, ◌∙◌, chars}
use Rattle.std.specs.List.{list_all}
use Rattle.std.specs.Str.{is_utf8}
use Rattle.std.proofs.lemmas.Str.{IsUtf8-from_is_utf8, is_utf8-from_IsUtf8, chars-nil}
use Rattle.std.proofs.lemmas.List.{nil_from_length}
use Rattle.mls_show.specs.CredentialText.{is_printable, is_printable_text}

-- no characters
pub no_chars : (text : List ℕ) → length text ≡ 0 → list_all is_printable (chars text) ≡ true
no_chars text none = ap (λ (t : List ℕ). list_all is_printable (chars t)) (nil_from_length text none) ∙ ap (list_all is_printable) chars-nil

is_false : (b : Bool) → (b ≡ true → ⊥) → b ≡ false
is_false true h = absurd (h refl)
is_false false h = refl

-- the characters of UTF-8 decide
pub of_utf8 : (bytes : List ℕ) → IsUtf8 bytes → list_all is_printable (chars bytes) ≡ is_printable_text bytes
of_utf8 bytes h = rw (is_utf8-from_IsUtf8 bytes h) refl

-- other bytes are no text
pub not_utf8 : (bytes : List ℕ) → (IsUtf8 bytes → ⊥) → false ≡ is_printable_text bytes
not_utf8 bytes h = rw (is_false (is_utf8 bytes) (λ e. h (IsUtf8-from_is_utf8 bytes e))) refl
