use Rattle.std.proofs.Common.{List, ℕ, Option, Some, None, Ok, Err}
use Rattle.mls_wire.specs.declared.fault.CodecFault.TheVariants.{Wire}
use Rattle.mls_wire.specs.declared.fault.WireFault.{WireFault}
use Rattle.mls_nodes.specs.Requirements.{FindsRequirements}
use Rattle.mls_nodes.specs.declared.required_capabilities.RequiredCapabilities.{RequiredCapabilities}
use Rattle.mls_tree.specs.PublicTreeModel.{plain}
use Rattle.mls_check.proofs.GroupTrees.{requirements_fail}
use Rattle.mls_check.proofs.group_tree.validate_group_tree.Goals as goal

none_found : (body : Option (List ℕ)) (fault : WireFault) → FindsRequirements body (Err (Wire fault)) → (r : RequiredCapabilities) → FindsRequirements body (Ok r) → ⊥
none_found None fault h r found = absurd h
none_found (Some body) fault h r found = h r found

pub returns-in-Err-Wire-clause-refused : goal.returns-in-Err-Wire-clause-refused
returns-in-Err-Wire-clause-refused g c =
    let fails = rw c.in-Err-Wire.field-0-is at c.in-Err-Wire.ensures in
    requirements_fail (g.C.SignatureCheck.meaning c.args.checker.now) c.args.context.now (plain c.args.tree.now) c.requires.supported (none_found _ c.in-Err-Wire.field-0-0 fails)
