-- The model of a borrowed credential. Used by contracts.
use Rattle.mls_nodes.specs.declared.credential.Credential.{Credential}
use Rattle.mls_nodes.specs.declared.credential.Credential.TheVariants as owned
use Rattle.mls_nodes.specs.declared.credential.CredentialBody.{CredentialBody}
use Rattle.mls_nodes.specs.declared.credential.CredentialBody.TheVariants.{Basic, X509}

-- `credential_value c` is the credential that is borrowed.
abbrev pub credential_value : CredentialBody → Credential
credential_value (Basic identity) = owned.Basic identity
credential_value (X509 chain) = owned.X509 chain
