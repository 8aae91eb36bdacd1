-- The encoding of an extension (RFC 9420, 7.2). Used by contracts.
use Rattle.std.specs.Prelude.{ℕ, List, Option}
use Rattle.std.specs.Int.{w16}
use Rattle.mls_wire.specs.Encoding.{◌⊕◌, number, vector}
use Rattle.mls_nodes.specs.declared.extension.Extension.{Extension}

-- `extension e` is the encoding of an extension: its type and its data (RFC 9420, 7.2).
unfoldable pub extension : Extension → Option (List ℕ)
extension e = number w16 e.kind ⊕ vector e.body
