use Rattle.std.proofs.Common.{Some, None, ap, refl}
use Rattle.mls_follow.specs.GroupModel.{group_state}
use Rattle.mls_follow.specs.MessageSignatures.{message_signatures_in_state}
use Rattle.mls_gate.specs.Answers.{query_text}
use Rattle.mls_gate.proofs.UnacceptedLines.{text_same}
use Rattle.mls_gate.proofs.phase.queried_signatures.Goals as goal

-- those that are not made are accepted
pub returns-in-Ok-clause-signatures : goal.returns-in-Ok-clause-signatures
returns-in-Ok-clause-signatures g c =
    let left = c.in-Ok.ensures.filtered in
    let all = message_signatures_in_state (group_state c.args.follower.now.group) left.message in
    record {
      signatures = Some all;
      has_signatures = record { message = left.message; encoded = left.encoded; same = refl };
      same = text_same (g.C.SignatureCheck.meaning c.args.follower.now.checker) c.in-Ok.signatures all left.same;
    }

pub returns-in-Err-Malformed-clause-signatures : goal.returns-in-Err-Malformed-clause-signatures
returns-in-Err-Malformed-clause-signatures g c =
    let refused = rw c.in-Err-Malformed.field-0-is at c.in-Err-Malformed.ensures.malformed in
    record {
      signatures = None;
      has_signatures = (refused (λ e. cc)).1;
      same = ap (query_text (g.C.SignatureCheck.meaning c.args.follower.now.checker)) c.new.ensures;
    }
