-- Reading nodes from left to right, as functions of the input. Only the contract of `Decode::read` and the definitions
-- `required_by` and `senders_by` name them. Theorems say that they agree with the encodings. Used by contracts.
use Rattle.std.specs.Prelude.{ℕ, List, Option, Some, None, nat_eq, if◌then◌else◌}
use Rattle.std.specs.Int.{w16}
use Rattle.mls_wire.specs.Input.{Input}
use Rattle.mls_wire.specs.Parsing.{◌>>=◌, number_at, vector_at, list_at}
use Rattle.mls_nodes.specs.declared.credential.Credential.{Credential}
use Rattle.mls_nodes.specs.declared.credential.Credential.TheVariants.{Basic, X509}
use Rattle.mls_nodes.specs.declared.required_capabilities.RequiredCapabilities.{RequiredCapabilities}
use Rattle.mls_nodes.specs.declared.senders.ExternalSender.{ExternalSender}

-- `credential_at i` is the credential at the front.
unfoldable pub credential_at : Input → Option (Credential × Input)
credential_at i = do
  kind ← number_at w16 i
  if nat_eq kind.0 1 then (vector_at kind.1 >>= λ x. Some (Basic x.0, x.1))
      else if nat_eq kind.0 2 then (list_at vector_at kind.1 >>= λ x. Some (X509 x.0, x.1))
      else None

-- `codes_at i` is the list of u16 at the front.
abbrev pub codes_at : Input → Option (List ℕ × Input)
codes_at i = list_at (number_at w16) i

-- `required_capabilities_at i` is the required capabilities at the front (RFC 9420, 11.1).
unfoldable pub required_capabilities_at : Input → Option (RequiredCapabilities × Input)
required_capabilities_at i = do
  extensions ← codes_at i
  proposals ← codes_at extensions.1
  credentials ← codes_at proposals.1
  Some (record { extensions = extensions.0; proposals = proposals.0; credentials = credentials.0 }, credentials.1)

-- `external_sender_at i` is the external sender at the front.
unfoldable pub external_sender_at : Input → Option (ExternalSender × Input)
external_sender_at i = do
  signature_key ← vector_at i
  credential ← credential_at signature_key.1
  Some (record { signature_key = signature_key.0; credential = credential.0 }, credential.1)
