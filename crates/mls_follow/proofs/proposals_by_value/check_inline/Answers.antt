use Rattle.std.proofs.Common.{rules, sym, ◌∙◌}
use Rattle.std.proofs.lemmas.List.{nil_from_length}
use Rattle.mls_msgs.specs.declared.framed_content.Sender.TheVariants.{Member}
use Rattle.mls_follow.proofs.InlineProposals.{checked_first, checked_more, checked_all}
use Rattle.mls_follow.proofs.proposals_by_value.check_inline.Goals as goal

pub loop-entry-init : goal.loop-entry-init
loop-entry-init g c =
    checked_first (g.C.SignatureCheck.meaning c.args.checker.now) c.args.group.now.context c.args.group.now.tree.tree (Member c.args.committer)
    c.args.commit.now.proposals c.as_slice-rest.result.now c.full-valid.result c.as_slice-rest.ensures c.full-valid.ensures

pub loop-entry-preserved : goal.loop-entry-preserved
loop-entry-preserved g c =
    checked_more (g.C.SignatureCheck.meaning c.args.checker.now) c.args.group.now.context c.args.group.now.tree.tree (Member c.args.committer)
    _ c.loop-entry.valid _ _ c.in-Some.entry.now c.loop-entry.rest.now c.in-Some.tail.now (search rules) c.loop-entry.invariant (search rules)
    c.and-valid.ensures

pub returns-in-Some-refusal-clause-refused : goal.returns-in-Some-refusal-clause-refused
returns-in-Some-refusal-clause-refused g c _ =
    checked_all (g.C.SignatureCheck.meaning c.args.checker.now) c.args.group.now.context c.args.group.now.tree.tree (Member c.args.committer)
    c.args.commit.now.proposals c.loop-entry.valid c.loop-entry.rest.now (nil_from_length _ c.in_default.ensures.cases) c.loop-entry.invariant
    ∙ sym c.refusal.ensures ∙ c.in-Some-refusal.is

pub returns-in-None-clause-rules_hold : goal.returns-in-None-clause-rules_hold
returns-in-None-clause-rules_hold g c =
    checked_all (g.C.SignatureCheck.meaning c.args.checker.now) c.args.group.now.context c.args.group.now.tree.tree (Member c.args.committer)
    c.args.commit.now.proposals c.loop-entry.valid c.loop-entry.rest.now (nil_from_length _ c.in_default.ensures.cases) c.loop-entry.invariant
    ∙ sym c.refusal.ensures ∙ c.in-None.is
