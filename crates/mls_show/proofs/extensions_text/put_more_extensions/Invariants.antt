use Rattle.std.proofs.Common.{◌≡◌, ◌++◌, length}
use Rattle.mls_show.specs.ExtensionsText.{more_extensions_text}
use Rattle.mls_show.proofs.extensions_text.put_more_extensions.Given as goal

-- the text so far, and that of the extensions still to come
abbrev pub invariant-extensions : goal.invariant-extensions
invariant-extensions l = l.out.items ++ more_extensions_text l.left ≡ l.initial.out.items ++ more_extensions_text l.initial.left

abbrev pub decreases-extensions : goal.decreases-extensions
decreases-extensions l = length l.left
