use Rattle.std.proofs.Common.{ℕ, List, ◌∙◌, ap, refl, subst}
use Rattle.mls_check.specs.Receipts.{listed}
use Rattle.mls_follow.specs.MessageSignatures.{message_signatures_in_state}
use Rattle.mls_c.specs.Buffers.{IsPut}
use Rattle.mls_c.specs.Followers.{meaning_in, state_in}
use Rattle.mls_c.specs.Messages.{PutsQuery}
use Rattle.mls_c.specs.Queries.{query_records}
use Rattle.mls_c.proofs.UnacceptedRecords.{records_same}
use Rattle.mls_c.proofs.group_follower.GroupFollower.query.Goals as goal

-- those that are not made are accepted
pub returns-in-Ok-query_records-clause-queries : goal.returns-in-Ok-query_records-clause-queries
returns-in-Ok-query_records-clause-queries c =
    let left = c.in-Ok.ensures.filtered in
    let all = message_signatures_in_state (state_in c.args.self.now) left.message in
    let same =
    c.as_slice.ensures.value ∙ c.in-Ok-query_records.ensures ∙ ap (query_records _) (c.of_list-left.ensures _)
    ∙ ap (λ (digests : List (List ℕ)). query_records (listed digests) c.in-Ok.list) (c.checker.ensures ∙ c.fresh_signatures.ensures.checker)
    ∙ records_same (meaning_in c.args.self.now) c.in-Ok.list all left.same in
    PutsQuery.lists all (record { message = left.message; encoded = left.encoded; same = refl })
    (subst (λ (xs : List ℕ). IsPut xs c.args.buffer.now c.put_sized.new.buffer c.put_sized.new.needed c.put_sized.result) same c.put_sized.ensures)
