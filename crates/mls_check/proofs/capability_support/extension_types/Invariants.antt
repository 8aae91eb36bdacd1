use Rattle.std.proofs.Common.{◌≡◌, ℕ, List, ◌++◌, length, map}
use Rattle.mls_nodes.specs.declared.extension.Extension.{Extension}
use Rattle.mls_check.proofs.capability_support.extension_types.Given as goal

-- the types of extensions
abbrev types_of : List Extension → List ℕ
types_of extensions = map (λ (e : Extension). e.kind) extensions

abbrev pub invariant-loop-extension : goal.invariant-loop-extension
invariant-loop-extension l = l.types.items ++ types_of l.left ≡ types_of l.extensions

abbrev pub decreases-loop-extension : goal.decreases-loop-extension
decreases-loop-extension l = length l.left
