use Rattle.std.proofs.Common.{refl}
use Rattle.std.proofs.lemmas.Result.{err_from_is_err_and}
use Rattle.mls_examine.proofs.examinations.examine_message.Goals as goal

pub returns-in-Public-clause-unfit : goal.returns-in-Public-clause-unfit
returns-in-Public-clause-unfit g c = rw c.in-Public.is (λ own. refl)

pub returns-in-Unread-clause-unfit : goal.returns-in-Unread-clause-unfit
returns-in-Unread-clause-unfit g c = rw c.in-Unread.is (λ own. refl)

pub returns-in_err-examine_info-in-GroupInfo-clause-unfit : goal.returns-in_err-examine_info-in-GroupInfo-clause-unfit
returns-in_err-examine_info-in-GroupInfo-clause-unfit g c =
    let p = err_from_is_err_and c.from_residual.result c.from_residual.ensures.1 in
    rw (c.in-GroupInfo.is, p.1, p.2) (λ own. c.in_err-examine_info-in-GroupInfo.ensures.unfit own)

pub returns-in_ok-examine_info-in-GroupInfo-clause-fit : goal.returns-in_ok-examine_info-in-GroupInfo-clause-fit
returns-in_ok-examine_info-in-GroupInfo-clause-fit g c =
    rw c.in-GroupInfo.is (c.in_ok-examine_info-in-GroupInfo.ensures.fit, c.in_ok-examine_info-in-GroupInfo.ensures.facts)

pub returns-in_err-examine_package-in-KeyPackage-clause-unfit : goal.returns-in_err-examine_package-in-KeyPackage-clause-unfit
returns-in_err-examine_package-in-KeyPackage-clause-unfit g c =
    let p =
    err_from_is_err_and c.from_residual-in_err-examine_package-in-KeyPackage.result c.from_residual-in_err-examine_package-in-KeyPackage.ensures.1 in
    rw (c.in-KeyPackage.is, p.1, p.2) (λ own. c.in_err-examine_package-in-KeyPackage.ensures.unfit own)

pub returns-in_ok-examine_package-in-KeyPackage-clause-fit : goal.returns-in_ok-examine_package-in-KeyPackage-clause-fit
returns-in_ok-examine_package-in-KeyPackage-clause-fit g c =
    rw c.in-KeyPackage.is (c.in_ok-examine_package-in-KeyPackage.ensures.addable, c.in_ok-examine_package-in-KeyPackage.ensures.facts)
