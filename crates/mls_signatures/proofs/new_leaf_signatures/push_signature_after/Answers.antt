use Rattle.std.proofs.Common.{subst}
use Rattle.std.specs.Prelude.{OnOk}
use Rattle.mls_signatures.specs.AddedLeaves.{AppendsSignatures}
use Rattle.mls_signatures.specs.SignaturesToVerify.{non_blank_leaf_signatures}
use Rattle.mls_signatures.proofs.Repeats.{extends-none}
use Rattle.mls_signatures.proofs.new_leaf_signatures.push_signature_after.Goals as goal

pub returns-in-Some : goal.returns-in-Some
returns-in-Some c = λ t m.
    let context = c.args.context.now in
    subst
    (λ o. OnOk c.push_leaf_signature.result
    (AppendsSignatures c.args.list.now (non_blank_leaf_signatures context.cipher_suite context.group_id c.args.index o) c.push_leaf_signature.new.list))
    (c.in-Some.ensures t m) c.push_leaf_signature.ensures

pub returns-in-None : goal.returns-in-None
returns-in-None c = λ t m.
    let context = c.args.context.now in
    subst (λ o. AppendsSignatures c.args.list.now (non_blank_leaf_signatures context.cipher_suite context.group_id c.args.index o) c.args.list.now)
    (c.in-None.ensures t m) (extends-none c.args.list.now)
