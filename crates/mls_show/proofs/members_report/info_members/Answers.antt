use Rattle.std.proofs.Common.{inl}
use Rattle.std.proofs.lemmas.Result.{IfOk-weaker}
use Rattle.mls_show.proofs.members_report.info_members.Goals as goal

pub returns-in-Ok-clause-report : goal.returns-in-Ok-clause-report
returns-in-Ok-clause-report c =
    let d = rw (c.in-Ok.is, c.as_slice.ensures.value) at c.decode_message-decoded.ensures.decoded in
    IfOk-weaker c.message_members-report.result _ _
    (λ r h. inl (record { sent = c.in-Ok.message; is_message = record { encoded = d.0; bounded = d.1 }; report = h })) c.message_members-report.ensures.report
