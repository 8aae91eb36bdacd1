use Rattle.std.proofs.Common.{rules}
use Rattle.mls_c.specs.Messages.{Judges}
use Rattle.mls_c.proofs.Judging.{takes}
use Rattle.mls_c.proofs.group_follower.GroupFollower.judge.Goals as goal

pub returns : goal.returns
returns c =
    let e = c.take_at-answer.ensures in
    Judges.judges c.take_at-answer.result (search rules)
    (record { takes = takes _ _ _ _ c.take_at-answer.result _ e.accepted e.next e.refused e.unchanged_on_error; meaning = e.checker; limit = e.too_long; header = e.no_header; unread = e.unread })
    c.judgement_of.ensures c.put_reference.ensures
