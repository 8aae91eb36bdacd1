use Rattle.std.proofs.lemmas.Result.{err_from_is_err_and}
use Rattle.mls_follow.proofs.Resuming.{entries_fault, references_fault, strict_fault, made_state}
use Rattle.mls_follow.proofs.resume.group_of.Goals as goal

pub returns-in_err-hold_entries-clause-refused : goal.returns-in_err-hold_entries-clause-refused
returns-in_err-hold_entries-clause-refused g c =
    let p = err_from_is_err_and c.from_residual-in_err-hold_entries.result c.from_residual-in_err-hold_entries.ensures.1 in
    rw (p.1, p.2) (entries_fault _ _ _ _ _ _ c.in_ok-group.ensures c.as_slice.ensures c.in_err-hold_entries.ensures.refused)

pub returns-in_err-group-2-clause-refused : goal.returns-in_err-group-2-clause-refused
returns-in_err-group-2-clause-refused g c =
    let p = err_from_is_err_and c.from_residual-in_err-group-2.result c.from_residual-in_err-group-2.ensures.1 in
    rw (p.1, p.2) (references_fault _ _ _ _ _ c.in_ok-group.ensures c.as_slice.ensures _ c.in_ok-hold_entries.ensures.held _ c.in_err-group-2.ensures)

pub returns-in_err-add_rules-clause-refused : goal.returns-in_err-add_rules-clause-refused
returns-in_err-add_rules-clause-refused g c =
    let p = err_from_is_err_and c.from_residual-in_err-add_rules.result c.from_residual-in_err-add_rules.ensures.1 in
    rw (p.1, p.2) (strict_fault _ _ _ _ _ c.in_ok-group.ensures c.as_slice.ensures _ c.in_ok-hold_entries.ensures.held _ c.in_ok-group-2.ensures _ c.in_err-add_rules.ensures.refused)

pub returns-clause-resumed : goal.returns-clause-resumed
returns-clause-resumed g c =
    made_state _ _ _ _ _ c.in_ok-group.ensures c.as_slice.ensures _ c.in_ok-hold_entries.ensures.held _ c.in_ok-group-2.ensures _ c.in_ok-add_rules.ensures.made

-- the invariant of the group that is dropped
pub invariant_of-group : goal.invariant_of-group
invariant_of-group g c =
    let group = c.hold_entries.new.group in
    record {
      same_suite = group.same_suite;
      requires_these = group.requires_these;
      same_types = group.same_types;
      same_senders = group.same_senders;
      referenced = group.referenced;
      settled = group.settled;
    }

pub invariant_of-group-in_err-group-2 : goal.invariant_of-group-in_err-group-2
invariant_of-group-in_err-group-2 g c =
    let group = c.hold_entries.new.group in
    record {
      same_suite = group.same_suite;
      requires_these = group.requires_these;
      same_types = group.same_types;
      same_senders = group.same_senders;
      referenced = group.referenced;
      settled = group.settled;
    }

pub invariant_of-group-in_err-add_rules : goal.invariant_of-group-in_err-add_rules
invariant_of-group-in_err-add_rules g c =
    let group = c.add_rules.new.self in
    record {
      same_suite = group.same_suite;
      requires_these = group.requires_these;
      same_types = group.same_types;
      same_senders = group.same_senders;
      referenced = group.referenced;
      settled = group.settled;
    }
