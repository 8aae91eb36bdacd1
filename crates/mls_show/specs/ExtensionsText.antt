-- Extensions by their types and lengths (RFC 9420, 7.2 and 13). Used by contracts.
use Rattle.std.specs.Prelude.{ℕ, List, [], ◌∷◌, ◌++◌, length, codes}
use Rattle.std.specs.Fmt.{decimal}
use Rattle.mls_nodes.specs.declared.extension.Extension.{Extension}

-- `extension_text e` is the type of an extension and the number of bytes of its data, with a colon between.
abbrev pub extension_text : Extension → List ℕ
extension_text e = decimal e.kind ++ (codes ":" ++ decimal (length e.body))

-- `more_extensions_text extensions` is further extensions of a list, each after a comma.
abbrev pub more_extensions_text : List Extension → List ℕ
more_extensions_text [] = []
more_extensions_text (e ∷ extensions) = codes "," ++ (extension_text e ++ more_extensions_text extensions)

-- `extensions_text extensions` is extensions joined by commas, in the order of their list, or a dash if there are none.
abbrev pub extensions_text : List Extension → List ℕ
extensions_text [] = codes "-"
extensions_text (e ∷ extensions) = extension_text e ++ more_extensions_text extensions
