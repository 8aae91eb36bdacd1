use Rattle.std.proofs.Common.{◌∙◌, ap, List}
use Rattle.std.specs.Prelude.{◌++◌, ◌∷◌, []}
use Rattle.mls_signatures.specs.declared.signature_to_verify.SignatureToVerify.{SignatureToVerify}
use Rattle.mls_signatures.proofs.Shortened.{shortened-push, restored-push}
use Rattle.mls_signatures.proofs.signature_list.SignatureList.append.Goals as goal

pub invariant_of-self-2 : goal.invariant_of-self-2
invariant_of-self-2 c =
    let i = c.self.inside in
    shortened-push i.group_id i.signatures.items c.args.needed.now c.in_ok-shortened.shortened c.push.new.self.items
    (rw c.as_slice.ensures.bytes at c.in_ok-shortened.ensures) c.in_ok-push.ensures.items c.self.invariant

pub returns : goal.returns
returns c =
    let i = c.self.inside in
    restored-push i.group_id i.signatures.items c.args.needed.now c.in_ok-shortened.shortened c.push.new.self.items
    (rw c.as_slice.ensures.bytes at c.in_ok-shortened.ensures) c.in_ok-push.ensures.items
    ∙ ap (λ (list : List SignatureToVerify). list ++ c.args.needed.now ∷ []) c.self.view_is
