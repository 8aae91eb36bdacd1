use Rattle.std.proofs.Common.{◌≡◌, ◌++◌, drop}
use Rattle.mls_show.specs.CredentialText.{escaped}
use Rattle.mls_show.proofs.credential_text.put_escaped.Given as goal

-- the text so far, and that of the bytes still to come
abbrev pub invariant-loop-byte : goal.invariant-loop-byte
invariant-loop-byte l = l.out.items ++ escaped (drop l.byte-index l.bytes) ≡ l.initial.out.items ++ escaped l.bytes
