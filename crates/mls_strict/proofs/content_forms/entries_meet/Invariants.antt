use Rattle.std.proofs.Common.{◌≡◌, drop}
use Rattle.std.specs.List.{list_all}
use Rattle.mls_strict.specs.ContentForms.{entry_meets}
use Rattle.mls_strict.proofs.content_forms.entries_meet.Given as goal

abbrev pub invariant-loop-entry : goal.invariant-loop-entry
invariant-loop-entry l = list_all (entry_meets l.context l.rule) (drop l.entry-index l.entries) ≡ list_all (entry_meets l.context l.rule) l.entries
