use Rattle.std.proofs.Common.{inl}
use Rattle.std.proofs.lemmas.Result.{err_from_is_err_and}
use Rattle.mls_examine.proofs.group_infos.examine_info.Goals as goal

pub returns-in_err-check_info-clause-unfit : goal.returns-in_err-check_info-clause-unfit
returns-in_err-check_info-clause-unfit g c =
    let p = err_from_is_err_and c.from_residual.result c.from_residual.ensures.1 in
    rw (p.1, p.2) (λ own. inl c.in_err-check_info.ensures.broken_rule)

pub returns-in_err-check_epoch-clause-unfit : goal.returns-in_err-check_epoch-clause-unfit
returns-in_err-check_epoch-clause-unfit g c =
    let p = err_from_is_err_and c.from_residual-in_err-check_epoch.result c.from_residual-in_err-check_epoch.ensures.1 in
    rw (p.1, p.2) (λ own. c.in_err-check_epoch.ensures.unfit own)
