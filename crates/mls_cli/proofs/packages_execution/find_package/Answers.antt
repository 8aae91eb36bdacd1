use Rattle.std.proofs.Common.{inl, inr, refl, subst}
use Rattle.std.proofs.lemmas.Result.{err_from_is_err_and}
use Rattle.mls_examine.specs.PackageFindings.{IsPackageFinding}
use Rattle.mls_cli.specs.ProgramCheckersInternal.{checker_verify}
use Rattle.mls_cli.proofs.packages_execution.find_package.Goals as goal

pub returns-in-Ok-clause-found : goal.returns-in-Ok-clause-found
returns-in-Ok-clause-found g c = record {
  bytes = c.in_ok-bytes.bytes.items;
  is_read = c.in_ok-bytes.ensures.read;
  is_found = subst (λ bytes. IsPackageFinding c.args.rules (checker_verify c.args.checker.now) bytes c.in-Ok.finding) c.as_slice.ensures.value c.in-Ok.ensures;
}

pub returns-in_err-bytes-clause-unread : goal.returns-in_err-bytes-clause-unread
returns-in_err-bytes-clause-unread g c =
    let p = err_from_is_err_and c.from_residual.result c.from_residual.ensures.1 in
    rw (p.1, p.2) (inr c.in_err-bytes.ensures.unread)

pub returns-clause-unread : goal.returns-clause-unread
returns-clause-unread g c = inl refl
