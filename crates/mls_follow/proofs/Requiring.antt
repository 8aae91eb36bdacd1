-- What is required of members after a commit, by the extensions that its list proposes.
use Rattle.std.proofs.Common.{◌≡◌, ◌∙◌, List, Option, Some, None, Ok, Err, refl}
use Rattle.std.specs.Prelude.{unwrap_or}
use Rattle.mls_wire.specs.declared.fault.CodecFault.TheVariants as faults
use Rattle.mls_wire.specs.declared.fault.WireFault.{WireFault}
use Rattle.mls_nodes.proofs.RequiredOnce.{required_by-determines, required_by-determined, required_by-found}
use Rattle.mls_nodes.specs.Requirements.{FindsRequirements, Requires, RequiresBy, extension_of, required_by}
use Rattle.mls_nodes.specs.declared.context.GroupContext.{GroupContext}
use Rattle.mls_nodes.specs.declared.extension.Extension.{Extension}
use Rattle.mls_nodes.specs.declared.required_capabilities.RequiredCapabilities.{RequiredCapabilities}
use Rattle.mls_apply.specs.ContextExtensions.{proposed_extensions, new_extensions}
use Rattle.mls_apply.specs.declared.list_item.ListItem.{ListItem}
use Rattle.mls_follow.specs.MessageRules.{required_after}

module _ (context : GroupContext) (required : RequiredCapabilities) (items : List ListItem) (requires : Requires context required) where
  -- it is what the extensions of the next context require
  required_by-new : required_by (new_extensions context.extensions items) ≡ required_after required (proposed_extensions items)
  required_by-new = go (proposed_extensions items)
    where
      go : (o : Option (List Extension)) → required_by (unwrap_or o context.extensions) ≡ required_after required o
      go None = required_by-determined context.extensions required requires
      go (Some es) = refl

  pub required_after-requires : (new : RequiredCapabilities) → required_after required (proposed_extensions items) ≡ Some new → RequiresBy (new_extensions context.extensions items) new
  required_after-requires new e = required_by-determines (new_extensions context.extensions items) new (required_by-new ∙ e)

-- what is found of the extensions that a list proposes is what is required after it, whatever is required before
module _ (items : List ListItem) (extensions : List Extension) (proposed : Some extensions ≡ proposed_extensions items) where
  pub required_after_read : (r : RequiredCapabilities) → FindsRequirements (extension_of 3 extensions) (Ok r)
      → (former : RequiredCapabilities) → required_after former (proposed_extensions items) ≡ Some r
  required_after_read r h former = rw (← proposed) (required_by-determined extensions r h)

  pub required_after_unread : (f : WireFault) → FindsRequirements (extension_of 3 extensions) (Err (faults.Wire f))
      → (former : RequiredCapabilities) → required_after former (proposed_extensions items) ≡ None
  required_after_unread f h former = rw (← proposed) (required_by-found extensions (Err (faults.Wire f)) h)
