-- What a group requires of its members' clients (RFC 9420, 11.1). Used by contracts.
use Rattle.std.specs.Prelude.{◌≡◌, ℕ, List, [], ◌∷◌, Option, Some, None, Result, Ok, Err, nat_eq, if◌then◌else◌}
use Rattle.mls_wire.specs.declared.fault.CodecFault.{CodecFault}
use Rattle.mls_wire.specs.Parsing.{whole_at}
use Rattle.mls_wire.specs.ReadContracts.{DecodesAll}
use Rattle.mls_nodes.specs.declared.context.GroupContext.{GroupContext}
use Rattle.mls_nodes.specs.declared.extension.Extension.{Extension}
use Rattle.mls_nodes.specs.declared.required_capabilities.RequiredCapabilities.{RequiredCapabilities}
use Rattle.mls_nodes.specs.Layout.{required_capabilities}
use Rattle.mls_nodes.specs.Parsing.{required_capabilities_at}

-- `extension_of kind extensions` is the data of the first extension of a type.
abbrev pub extension_of : ℕ → List Extension → Option (List ℕ)
extension_of kind [] = None
extension_of kind (e ∷ es) = if nat_eq e.kind kind then Some e.body else extension_of kind es

-- `FindsRequirements data result`: a call returned the required capabilities whose encoding is all of the data, or
-- empty lists if there is no data. On a wire fault the data is no such encoding.
abbrev pub FindsRequirements : Option (List ℕ) → Result RequiredCapabilities CodecFault → Type 0
FindsRequirements None (Ok r) = (r.extensions ≡ []) × (r.proposals ≡ []) × (r.credentials ≡ [])
FindsRequirements None (Err e) = ⊥
FindsRequirements (Some body) result = DecodesAll required_capabilities body result

-- `RequiresBy extensions required`: the first extension of type 3 requires `required`, or there is none and `required`
-- is empty (RFC 9420, 11.1).
abbrev pub RequiresBy : List Extension → RequiredCapabilities → Type 0
RequiresBy extensions required = FindsRequirements (extension_of 3 extensions) (Ok required)

-- `Requires context required`: the group of this context requires `required` (RFC 9420, 11.1).
abbrev pub Requires : GroupContext → RequiredCapabilities → Type 0
Requires context required = RequiresBy context.extensions required

-- `HasNoRequirements context`: the required capabilities of the context cannot be read.
abbrev pub HasNoRequirements : GroupContext → Type 0
HasNoRequirements context = (required : RequiredCapabilities) → Requires context required → ⊥

-- `requirements_in data` is the required capabilities in the data of an extension of type 3, read from left to right.
abbrev pub requirements_in : Option (List ℕ) → Option RequiredCapabilities
requirements_in None = Some (record { extensions = []; proposals = []; credentials = [] })
requirements_in (Some body) = whole_at required_capabilities_at body

-- `required_by extensions` is what a group with these extensions requires, as a function (RFC 9420, 11.1). By the
-- theorem `requirements_are_determined` it agrees with `RequiresBy`.
unfoldable pub required_by : List Extension → Option RequiredCapabilities
required_by extensions = requirements_in (extension_of 3 extensions)
