use Rattle.std.proofs.Common.{◌≡◌, Some, rules, subst}
use Rattle.mls_hash.specs.SuiteHash.{hash_of}
use Rattle.mls_nodes.specs.declared.required_capabilities.RequiredCapabilities.{RequiredCapabilities}
use Rattle.mls_apply.specs.AppliedList.{outcome}
use Rattle.mls_apply.specs.RuleLists.{first_failing}
use Rattle.mls_apply.specs.Transcript.{confirmed_hash, interim_hash}
use Rattle.mls_follow.specs.GroupModel.{group_state}
use Rattle.mls_follow.specs.MessageRules.{applied_tree_rules, changed_tree}
use Rattle.mls_follow.specs.StrictRulesInternal.{RefusesCommit}
use Rattle.mls_follow.proofs.Requiring.{required_after-requires}
use Rattle.mls_follow.proofs.StrictCommits.{commit_refused}
use Rattle.mls_follow.proofs.group.Group.apply_commit.Goals as goal

pub begin_epoch-requires-clause-requirements : goal.begin_epoch-requires-clause-requirements
begin_epoch-requires-clause-requirements g c =
    let group = c.args.self.now in
    rw c.in-Ok-stage_judged_commit.ensures.extensions
    (required_after-requires group.context group.required c.args.commit.now.items.items group.requires_these _ c.requires.requirements)

pub returns-in-Err-stage_judged_commit : goal.returns-in-Err-stage_judged_commit
returns-in-Err-stage_judged_commit g c =
    let group = c.args.self.now in
    let commit = c.args.commit.now in
    let o = outcome commit.items.items group.tree.tree in
    let H = hash_of group.context.cipher_suite in
    let refused = subst (λ (required : RequiredCapabilities).
    RefusesCommit group.context group.rules commit.late commit.items.items
    (first_failing (applied_tree_rules (g.C.SignatureCheck.meaning c.args.checker.now) (group_state group) required commit.committer commit.path.now o))
    (changed_tree H commit.committer commit.path.now o) c.in-Err-stage_judged_commit.refusal)
    c.required_after-after.ensures.required c.in-Err-stage_judged_commit.ensures.refused in
    let confirms : confirmed_hash H group.interim commit.auth.now ≡ Some c.in-Ok.hashes.confirmed = rw group.same_suite at c.in-Ok.ensures.confirmed in
    let follows : interim_hash H c.in-Ok.hashes.confirmed commit.auth.now.confirmation_tag ≡ Some c.in-Ok.hashes.interim = rw group.same_suite at c.in-Ok.ensures.interim in
    (tt, tt, commit_refused (group_state group) commit.late commit.items.items commit.auth.now _ _ _ _ confirms follows _ refused, (search rules))
