-- Whether extensions may be a group's, by what was found of their requirements.
use Rattle.std.proofs.Common.{◌≡◌, List, true, false, Ok, Err, sym, ap}
use Rattle.std.specs.Prelude.{is_some}
use Rattle.mls_wire.specs.declared.fault.CodecFault.TheVariants as faults
use Rattle.mls_wire.specs.declared.fault.WireFault.{WireFault}
use Rattle.mls_nodes.proofs.RequiredOnce.{required_by-found}
use Rattle.mls_nodes.specs.Requirements.{FindsRequirements, extension_of}
use Rattle.mls_nodes.specs.declared.extension.Extension.{Extension}
use Rattle.mls_nodes.specs.declared.required_capabilities.RequiredCapabilities.{RequiredCapabilities}
use Rattle.mls_apply.specs.ProposalRules.{are_valid_extensions}

-- they were read
pub valid_read : (extensions : List Extension) (r : RequiredCapabilities) → FindsRequirements (extension_of 3 extensions) (Ok r)
    → true ≡ are_valid_extensions extensions
unfolding are_valid_extensions
valid_read extensions r h = sym (ap is_some (required_by-found extensions (Ok r) h))

-- they can't be
pub invalid_read : (extensions : List Extension) (f : WireFault) → FindsRequirements (extension_of 3 extensions) (Err (faults.Wire f))
    → false ≡ are_valid_extensions extensions
unfolding are_valid_extensions
invalid_read extensions f h = sym (ap is_some (required_by-found extensions (Err (faults.Wire f)) h))
