use Rattle.mls_start.proofs.read_inputs.read_inputs.Goals as goal

pub returns-in-Err-clause-unread : goal.returns-in-Err-clause-unread
returns-in-Err-clause-unread c =
    let unread = rw c.as_slice.ensures.value at c.in-Err.ensures.unread in
    unread _
