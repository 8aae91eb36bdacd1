use Rattle.std.proofs.Common.{◌≡◌, length}
use Rattle.mls_msgs.specs.declared.framed_content.Sender.TheVariants.{Member}
use Rattle.mls_follow.specs.InlineValidity.{both_valid, list_validity}
use Rattle.mls_follow.proofs.proposals_by_value.check_inline.Given as goal

abbrev pub invariant-loop-entry : goal.invariant-loop-entry
invariant-loop-entry g l =
    let G = g.C.SignatureCheck.meaning l.checker in
    list_validity G l.group.context l.group.tree.tree (Member l.committer) l.commit.proposals
    ≡ both_valid l.valid (list_validity G l.group.context l.group.tree.tree (Member l.committer) l.rest)

abbrev pub decreases-loop-entry : goal.decreases-loop-entry
decreases-loop-entry g l = length l.rest
