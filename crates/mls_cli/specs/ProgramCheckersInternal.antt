-- The verification function of the program's checker. Internal: no public contract uses this.
use Rattle.std.specs.Prelude.{true}
use Rattle.mls_check.specs.Receipts.{listed}
use Rattle.mls_check.specs.Signatures.{VerifyFn}
use Rattle.mls_cli.specs.declared.program_checker.ProgramChecker.{ProgramChecker}
use Rattle.mls_cli.specs.declared.program_checker.ProgramChecker.TheVariants as verifier

-- `checker_verify c` is the verification function: it accepts each signature, or those that have a receipt.
abbrev pub checker_verify : ProgramChecker → VerifyFn
checker_verify verifier.All = λ suite key content signature. true
checker_verify (verifier.Known digests) = listed digests
