use Rattle.std.proofs.Common.{◌≡◌, ◌++◌, drop}
use Rattle.mls_apply.specs.PackageRefs.{added_references}
use Rattle.mls_apply.proofs.package_refs.added_references.Given as goal

abbrev pub invariant-loop-item : goal.invariant-loop-item
invariant-loop-item l = l.references.items ++ added_references (drop l.item-index l.items) ≡ added_references l.items
