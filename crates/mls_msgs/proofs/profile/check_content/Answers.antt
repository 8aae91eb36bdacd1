use Rattle.std.proofs.Common.{arith}
use Rattle.std.proofs.lemmas.Result.{IfOk-weaker}
use Rattle.mls_msgs.proofs.MembersRead.{content_passes}
use Rattle.mls_msgs.proofs.profile.check_content.Goals as goal

pub returns-then-kind-eq2 : goal.returns-then-kind-eq2
returns-then-kind-eq2 c =
    IfOk-weaker c.check_proposal.result _ _
    (λ v h. content_passes c.args.reader c.read.new.reader c.in_ok-kind.kind c.in_ok-kind.ensures (λ e. h) (λ e. let two = c.if-kind-eq2.true in absurd (omega arith)))
    c.check_proposal.ensures

pub returns-then-kind-eq3 : goal.returns-then-kind-eq3
returns-then-kind-eq3 c =
    IfOk-weaker c.check_commit.result _ _
    (λ v h. content_passes c.args.reader c.read.new.reader c.in_ok-kind.kind c.in_ok-kind.ensures (λ e. absurd (c.if-kind-eq2.false e)) (λ e. h))
    c.check_commit.ensures

pub returns : goal.returns
returns c =
    content_passes c.args.reader c.read.new.reader c.in_ok-kind.kind c.in_ok-kind.ensures (λ e. absurd (c.if-kind-eq2.false e)) (λ e. absurd (c.if-kind-eq3.false e))
