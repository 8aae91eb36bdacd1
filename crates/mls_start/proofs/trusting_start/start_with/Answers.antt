use Rattle.std.proofs.Common.{List, ◌++◌, sym, subst}
use Rattle.mls_signatures.specs.declared.signature_to_verify.SignatureToVerify.{SignatureToVerify}
use Rattle.mls_tree.specs.PublicTreeModel.{plain}
use Rattle.std.specs.Prelude.{option_map}
use Rattle.mls_follow.specs.FollowerModel.{state_of}
use Rattle.mls_start.specs.StartSignatures.{StartHasSignatures}
use Rattle.mls_start.proofs.LeavesLeft.{leaves-first}
use Rattle.mls_start.proofs.StartLists.{start-has}
use Rattle.mls_start.proofs.Starting.{starts_with}
use Rattle.mls_start.proofs.trusting_start.start_with.Goals as goal

pub returns-in-Ok-clause-starts : goal.returns-in-Ok-clause-starts
returns-in-Ok-clause-starts c =
    let s = state_of c.in-Ok.follower in
    let info = c.args.inputs.info in
    let supplied = option_map plain c.args.inputs.tree in
    let has = start-has c.args.mode.rules c.args.mode.profile info supplied s c.args.info_signatures.items c.in-Ok.ensures.started c.requires in
    λ info_bytes tree_bytes is_read.
    starts_with c.args.mode.rules c.args.mode.profile info_bytes tree_bytes info supplied is_read s _
    (subst (λ (ws : List SignatureToVerify). StartHasSignatures c.args.mode.rules c.args.mode.profile info supplied s (c.args.info_signatures.items ++ ws)) (sym (leaves-first s)) has)
