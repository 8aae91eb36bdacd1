use Rattle.std.proofs.Common.{◌≡◌, IsUtf8, chars}
use Rattle.std.specs.Str.Iter.{chars_rest}
use Rattle.std.specs.List.{list_all}
use Rattle.mls_show.specs.CredentialText.{is_printable}
use Rattle.mls_show.proofs.credential_text.has_printable.Given as goal

-- the characters still to come decide
abbrev pub invariant-loop-c : goal.invariant-loop-c
invariant-loop-c l = IsUtf8 (chars_rest l.c-iterator) × (list_all is_printable (chars (chars_rest l.c-iterator)) ≡ list_all is_printable (chars l.fn.text))
