-- A GroupContext whose version and suite are supported passes the test of them.
use Rattle.std.proofs.Common.{◌≡◌, true, refl}
use Rattle.mls_nodes.specs.declared.context.GroupContext.{GroupContext}
use Rattle.mls_hash.proofs.Suites.{passes_test}
use Rattle.mls_check.specs.GroupTree.{IsSupportedContext}
use Rattle.mls_signatures.specs.SignaturesToVerify.{is_supported_context}

pub passes_context : (context : GroupContext) → IsSupportedContext context → is_supported_context context ≡ true
passes_context context h = rw (h.version, passes_test context.cipher_suite h.suite) refl
