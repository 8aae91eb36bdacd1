use Rattle.std.proofs.lemmas.Result.{IfOk-weaker}
use Rattle.mls_msgs.proofs.MembersRead.{entry_passes}
use Rattle.mls_msgs.proofs.profile.check_entry.Goals as goal

pub returns-then-kind-eq1 : goal.returns-then-kind-eq1
returns-then-kind-eq1 c =
    let kind = rw c.fork-ahead.ensures at c.in_ok-kind.ensures in
    IfOk-weaker c.check_proposal.result _ _ (λ v h. entry_passes c.args.reader.now c.read.new.reader c.in_ok-kind.kind kind (λ e. h)) c.check_proposal.ensures

pub returns : goal.returns
returns c =
    entry_passes c.args.reader.now c.read.new.reader c.in_ok-kind.kind (rw c.fork-ahead.ensures at c.in_ok-kind.ensures) (λ e. absurd (c.if-kind-eq1.false e))
