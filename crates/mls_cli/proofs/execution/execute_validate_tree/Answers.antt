use Rattle.std.proofs.Common.{inl, inr, rules}
use Rattle.mls_cli.proofs.execution.execute_validate_tree.Goals as goal

pub returns-clause-executed : goal.returns-clause-executed
returns-clause-executed g c =
    inr (record {
      context_bytes = c.as_slice.result.now;
      tree_bytes = c.in_ok-tree.tree.items;
      context_read = rw c.as_slice.ensures.value c.in_ok-context.ensures.read;
      tree_read = c.in_ok-tree.ensures.read;
      reports = record {
        printed = c.validate_tree.ensures.printed;
        part = c.validate_tree.ensures.effect_on_error;
        memory = c.validate_tree.ensures.memory;
        not_read_fault = c.validate_tree.ensures.fault;
      };
    })

pub returns-in_err-tree-clause-executed : goal.returns-in_err-tree-clause-executed
returns-in_err-tree-clause-executed g c =
    inl (record {
      fault = c.in_err-tree.field-0.0;
      lost = inr (c.in_ok-context.context.items, c.in_ok-context.ensures.read, c.in_err-tree.ensures.unread);
      outcome_is = search rules;
      wrote = search rules;
    })
