use Rattle.std.proofs.Common.{◌≡◌, ◌++◌, length, map}
use Rattle.mls_nodes.specs.declared.extension.Extension.{Extension}
use Rattle.mls_show.proofs.info_text.types_of.Given as goal

-- the types so far, and those of the extensions still to come
abbrev pub invariant-loop-extension : goal.invariant-loop-extension
invariant-loop-extension l = l.types.items ++ map (λ (e : Extension). e.kind) l.left ≡ map (λ (e : Extension). e.kind) l.extensions

abbrev pub decreases-loop-extension : goal.decreases-loop-extension
decreases-loop-extension l = length l.left
