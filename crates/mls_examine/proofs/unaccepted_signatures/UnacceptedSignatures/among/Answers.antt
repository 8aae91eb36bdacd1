use Rattle.std.proofs.Common.{Bool, rules}
use Rattle.std.specs.Prelude.{not}
use Rattle.std.proofs.lemmas.Fn.{filter_same}
use Rattle.mls_signatures.specs.declared.signature_to_verify.SignatureToVerify.{SignatureToVerify}
use Rattle.mls_examine.specs.Packages.{is_accepted}
use Rattle.mls_examine.proofs.unaccepted_signatures.UnacceptedSignatures.among.Goals as goal

pub returns : goal.returns
returns g c =
    let rejects : SignatureToVerify → Bool = λ q. not (is_accepted (g.C.SignatureCheck.meaning c.args.checker.now) q) in
    filter_same _ rejects _ (λ x b f' k. search rules) _ _ c.retain.ensures.filtered
