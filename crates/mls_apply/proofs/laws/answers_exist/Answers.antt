use Rattle.mls_apply.proofs.Deciding.{some_items, some_list_answer, some_proposal_answer, some_outcome, some_hashes, some_merge}
use Rattle.mls_apply.proofs.laws.answers_exist.Goals as goal

pub returns : goal.returns
returns c =
    record { items = some_items; lists = some_list_answer; proposals = some_proposal_answer; outcomes = some_outcome; hashes = some_hashes; merges = some_merge }
