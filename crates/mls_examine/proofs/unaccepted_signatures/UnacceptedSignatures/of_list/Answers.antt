use Rattle.std.proofs.Common.{◌∙◌, ◌++◌, ◌∷◌, [], List, sym, ap, arith}
use Rattle.mls_signatures.specs.declared.signature_to_verify.SignatureToVerify.{SignatureToVerify}
use Rattle.mls_examine.specs.GroupInfos.{unaccepted}
use Rattle.mls_examine.proofs.Looking.{one_more, take_whole}
use Rattle.mls_examine.proofs.unaccepted_signatures.UnacceptedSignatures.of_list.Goals as goal

pub loop-index-preserved : goal.loop-index-preserved
loop-index-preserved g c =
    let G = g.C.SignatureCheck.meaning c.args.checker.now in
    let q = c.in_ok-signature.signature in
    c.in_ok-push_unaccepted.ensures
    ∙ ap (λ (qs : List SignatureToVerify). qs ++ unaccepted G (q ∷ [])) c.loop-index.invariant
    ∙ sym (one_more G c.args.list.now c.loop-index.index q c.in_ok-signature.ensures)

pub returns : goal.returns
returns g c =
    let G = g.C.SignatureCheck.meaning c.args.checker.now in
    c.loop-index.invariant
    ∙ ap (unaccepted G) (take_whole c.args.list.now c.loop-index.index (omega (arith, c.len-index-end.ensures, c.loop-index-test.false)))
