use Rattle.std.proofs.Common.{◌≡◌, ◌∙◌, ap, sym, subst}
use Rattle.std.specs.Prelude.{option_map}
use Rattle.mls_tree.specs.PublicTreeModel.{plain}
use Rattle.mls_msgs.specs.declared.rules.Rules.{Rules}
use Rattle.mls_follow.specs.CommitTree.{initial_state_of_tree}
use Rattle.mls_follow.specs.FollowerInvariant.{HasAcceptedPending, HasUniqueKeysAndValidLeaves}
use Rattle.mls_follow.specs.GroupModel.{group_state}
use Rattle.mls_follow.specs.State.{State}
use Rattle.mls_follow.proofs.AcceptedPending.{start_pending}
use Rattle.mls_follow.proofs.InvariantLemmas.{start_checked}
use Rattle.mls_follow.proofs.Starting.{version_followed, suite_followed}
use Rattle.mls_follow.proofs.follower.Follower.start_by.Goals as goal

pub returns-in-Err-check_start-clause-unsupported_version : goal.returns-in-Err-check_start-clause-unsupported_version
returns-in-Err-check_start-clause-unsupported_version g c =
    version_followed c.args.asked _ c.args.info (option_map plain c.args.tree) c.in-Err-check_start.fault c.in-Ok.ensures.supported c.in-Err-check_start.ensures.refused

pub returns-in-Err-check_start-clause-unsupported_suite : goal.returns-in-Err-check_start-clause-unsupported_suite
returns-in-Err-check_start-clause-unsupported_suite g c =
    suite_followed c.args.asked _ c.args.info (option_map plain c.args.tree) c.in-Err-check_start.fault c.in-Ok.ensures.supported c.in-Err-check_start.ensures.refused

-- the group's tree was judged
pub invariant_of-result : goal.invariant_of-result
invariant_of-result g c =
    let G = g.C.SignatureCheck.meaning c.args.checker in
    let found = c.in-Ok-check_start.checked in
    let tree = c.in-Ok-check_start.tree.tree in
    let begun = c.in-Ok-check_start.ensures.started c.args.profile in
    let first : State = initial_state_of_tree c.args.asked c.args.profile c.args.info tree found.interim in
    let same : group_state c.initial_group.result ≡ first =
    c.initial_group.ensures ∙ ap (λ (asked : Rules). initial_state_of_tree asked c.args.profile c.args.info tree found.interim) c.in-Ok-check_start.ensures.asked in
    record {
      checked = subst (HasUniqueKeysAndValidLeaves G) (sym same) (start_checked c.args.asked c.args.profile G c.args.info (option_map plain c.args.tree) first begun);
      accepted = subst (HasAcceptedPending G) (sym same) (start_pending G c.args.asked c.args.profile c.args.info (option_map plain c.args.tree) first begun);
    }
