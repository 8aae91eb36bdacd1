use Rattle.std.proofs.Common.{◌≡◌, ◌++◌, drop}
use Rattle.mls_show.specs.StateText.{more_added_lines}
use Rattle.mls_show.proofs.state_text.put_more_added.Given as goal

-- the lines so far, and those still to come
abbrev pub invariant-loop-reference : goal.invariant-loop-reference
invariant-loop-reference l = l.out.items ++ more_added_lines (drop l.reference-index l.references) ≡ l.initial.out.items ++ more_added_lines l.references
