use Rattle.std.proofs.Common.{◌≡◌, ◌++◌, drop}
use Rattle.mls_show.specs.StateText.{more_pending_lines}
use Rattle.mls_show.proofs.state_text.put_more_pending.Given as goal

-- the lines so far, and those still to come
abbrev pub invariant-loop-proposal : goal.invariant-loop-proposal
invariant-loop-proposal l = l.out.items ++ more_pending_lines (drop l.proposal-index l.known) ≡ l.initial.out.items ++ more_pending_lines l.known
