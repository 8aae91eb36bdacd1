use Rattle.std.proofs.Common.{◌++◌, flat_map, append_assoc}
use Rattle.mls_check.proofs.Inputs.{vector-some, vector-none}
use Rattle.mls_check.proofs.receipts.update_vector.Goals as goal

pub returns-in_err-len_of_pieces-clause-none : goal.returns-in_err-len_of_pieces-clause-none
returns-in_err-len_of_pieces-clause-none c = rw c.from_residual.ensures (vector-none (flat_map (λ p. p.now) c.args.body.now) c.in_err-len_of_pieces.ensures)

pub returns-clause-some : goal.returns-clause-some
returns-clause-some c =
    let body = flat_map (λ p. p.now) c.args.body.now in
    let len = rw c.in_ok-len_of_pieces.ensures.0 at c.of-len.ensures in (
      c.of-len.result ++ body,
      vector-some body c.of-len.result len,
      λ m held. rw (← append_assoc) (c.update_pieces.ensures (m ++ c.of-len.result) (rw c.as_slice.ensures at (c.update.ensures m held))),
    )
