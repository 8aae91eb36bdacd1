-- Lists of extensions (RFC 9420, 7.2, 13.4 and 17.3). Used by contracts.
use Rattle.std.specs.Prelude.{ℕ, zero, suc, ◌==◌, nat_le, Bool, true, ◌&&◌, ◌||◌, not, is_some, if◌then◌else◌, List, [], ◌∷◌, Option, Some, None, length}
use Rattle.std.specs.List.{list_all, list_any}
use Rattle.std.specs.Int.{w16}
use Rattle.mls_wire.specs.Input.{Input, at}
use Rattle.mls_wire.specs.Parsing.{◌>>=◌, whole_at, vector_at, number_at}
use Rattle.mls_nodes.specs.declared.extension.Extension.{Extension}
use Rattle.mls_nodes.specs.ExternalSenders.{senders_in}
use Rattle.mls_nodes.specs.Parsing.{external_sender_at}
use Rattle.mls_nodes.specs.Requirements.{extension_of}

-- `has_each_once es`: no two extensions are of one type (RFC 9420, 7.2 and 13.4).
unfoldable pub has_each_once : List Extension → Bool
has_each_once [] = true
has_each_once (e ∷ es) = not (list_any (λ f. f.kind == e.kind) es) && has_each_once es

-- `has_no_group_type es`: no type is one of 2 to 5, which belong into a KeyPackage, a GroupContext or a GroupInfo
-- (RFC 9420, 17.3).
unfoldable pub has_no_group_type : List Extension → Bool
has_no_group_type es = list_all (λ e. not (nat_le 2 e.kind && nat_le e.kind 5)) es

-- `if_there test body`: the test passes on the data, if there are any.
abbrev pub if_there : (List ℕ → Bool) → Option (List ℕ) → Bool
if_there test None = true
if_there test (Some body) = test body

-- `is_application_id body`: the data are those of an application_id, one vector (RFC 9420, 5.3.3).
abbrev pub is_application_id : List ℕ → Bool
is_application_id body = is_some (whole_at vector_at body)

-- `has_readable_id es`: the first application_id of a leaf node, if there is one, can be read.
unfoldable pub has_readable_id : List Extension → Bool
has_readable_id es = if_there is_application_id (extension_of 1 es)

-- `unread_type_at count i` is the credential type of the first external sender, among the first `count`, whose credential is
-- neither basic nor x509 (RFC 9420, 5.3 and 12.1.8.1). Such a credential is not read, so nothing after it can be.
unfoldable pub unread_type_at : ℕ → Input → Option ℕ
unread_type_at zero i = None
unread_type_at (suc count) i = do
  key ← vector_at i
  kind ← number_at w16 key.1
  if (kind.0 == 1) || (kind.0 == 2)
      then (external_sender_at i >>= λ sender. unread_type_at count sender.1)
      else Some kind.0

-- `are_senders body`: the data are those of an external_senders: a list of external senders, or one vector that has, after
-- any number of them, a credential of a type that is not read (RFC 9420, 12.1.8.1).
unfoldable pub are_senders : List ℕ → Bool
are_senders body =
    is_some (senders_in (Some body))
    || is_some (whole_at vector_at body >>= λ senders. unread_type_at (length senders) (at 0 senders))

-- `has_readable_senders es`: the first external_senders of a GroupContext, if there is one, can be read as far as its
-- credentials can be.
unfoldable pub has_readable_senders : List Extension → Bool
has_readable_senders es = if_there are_senders (extension_of 5 es)
