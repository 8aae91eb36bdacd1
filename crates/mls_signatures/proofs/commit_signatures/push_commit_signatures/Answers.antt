use Rattle.std.proofs.Common.{◌≡◌, sym, subst, true}
use Rattle.mls_msgs.specs.declared.framed_content.Sender.TheVariants.{Member}
use Rattle.mls_signatures.specs.AcceptedSignatures.{are_from_packages}
use Rattle.mls_signatures.specs.AddedLeaves.{HasNames, HasPackageNames, ListValues}
use Rattle.mls_signatures.proofs.AddedLeaves.{if_fresh, resolved_names, resolved_packages, resolved_values}
use Rattle.mls_signatures.proofs.commit_signatures.push_commit_signatures.Goals as goal

pub push_list_signatures-answer-requires-clause-named : goal.push_list_signatures-answer-requires-clause-named
push_list_signatures-answer-requires-clause-named c =
    let commit = c.args.commit.now in
    let entries = commit.commit.now.proposals in
    let known = rw c.in-Some.is at c.in_ok-items.ensures in
    subst (λ items. HasNames entries items) (sym c.as_slice.ensures.value)
    (resolved_names (Member commit.committer) c.args.known.now entries c.in-Some.items.items (sym known))

pub push_list_signatures-answer-requires-clause-values : goal.push_list_signatures-answer-requires-clause-values
push_list_signatures-answer-requires-clause-values c =
    let commit = c.args.commit.now in
    let entries = commit.commit.now.proposals in
    let known = rw c.in-Some.is at c.in_ok-items.ensures in
    subst (λ items. ListValues commit.context.now (Member commit.committer) entries items) (sym c.as_slice.ensures.value)
    (resolved_values commit.context.now (Member commit.committer) c.args.known.now entries c.in-Some.items.items (sym known))

pub push_list_signatures-answer-requires-clause-packages : goal.push_list_signatures-answer-requires-clause-packages
push_list_signatures-answer-requires-clause-packages c =
    let commit = c.args.commit.now in
    let entries = commit.commit.now.proposals in
    let known = rw c.in-Some.is at c.in_ok-items.ensures in
    if_fresh commit.leaves (are_from_packages c.args.known.now ≡ true) (HasPackageNames entries c.as_slice.result.now)
    (λ all. subst (λ items. HasPackageNames entries items) (sym c.as_slice.ensures.value)
    (resolved_packages (Member commit.committer) c.args.known.now entries c.in-Some.items.items (sym known) all))
    c.requires.packages
