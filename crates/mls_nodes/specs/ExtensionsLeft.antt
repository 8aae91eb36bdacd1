-- The extensions in an input, read from left to right. Internal: no public contract uses this.
use Rattle.std.specs.Prelude.{List, [], length, Option, unwrap_or}
use Rattle.mls_wire.specs.Input.{Input}
use Rattle.mls_wire.specs.Parsing.{items_at}
use Rattle.mls_nodes.specs.LeafParsing.{extension_at}
use Rattle.mls_nodes.specs.declared.extension.Extension.{Extension}

-- `extensions_left i` is the extensions up to the end of the input.
abbrev pub extensions_left : Input → Option (List Extension)
extensions_left i = items_at extension_at (length i.left) i

-- The same of an input that has extensions up to its end.
abbrev pub extensions_in : Input → List Extension
extensions_in i = unwrap_or (extensions_left i) []
