use Rattle.std.proofs.Common.{map}
use Rattle.mls_nodes.specs.NodeValues.{entry_value}
use Rattle.mls_nodes.specs.RatchetTreeEncoding.{trimmed}
use Rattle.mls_nodes.proofs.Trimming.{is_encoded, is_empty_tree, is_misplaced, is_too_long, is_over_a_limit, no_last_blank}
use Rattle.mls_nodes.proofs.ratchet_tree.encode.encode_ratchet_tree.Goals as goal

pub returns-clause-encoded : goal.returns-clause-encoded
returns-clause-encoded c = is_encoded (map entry_value c.args.nodes.now) _ (rw c.trimmed_entries.ensures at c.encode_trimmed.ensures)

pub returns-clause-empty : goal.returns-clause-empty
returns-clause-empty c = is_empty_tree (λ v. v.items) (trimmed (map entry_value c.args.nodes.now)) c.encode_trimmed.result (rw c.trimmed_entries.ensures at c.encode_trimmed.ensures)

pub returns-clause-misplaced : goal.returns-clause-misplaced
returns-clause-misplaced c = is_misplaced (λ v. v.items) (trimmed (map entry_value c.args.nodes.now)) c.encode_trimmed.result (rw c.trimmed_entries.ensures at c.encode_trimmed.ensures)

pub returns-clause-many : goal.returns-clause-many
returns-clause-many c = is_too_long (λ v. v.items) (trimmed (map entry_value c.args.nodes.now)) c.encode_trimmed.result (rw c.trimmed_entries.ensures at c.encode_trimmed.ensures)

pub returns-clause-long : goal.returns-clause-long
returns-clause-long c = is_over_a_limit (λ v. v.items) (trimmed (map entry_value c.args.nodes.now)) c.encode_trimmed.result (rw c.trimmed_entries.ensures at c.encode_trimmed.ensures)

pub returns-clause-not_blank : goal.returns-clause-not_blank
returns-clause-not_blank c = no_last_blank (λ v. v.items) (trimmed (map entry_value c.args.nodes.now)) c.encode_trimmed.result (rw c.trimmed_entries.ensures at c.encode_trimmed.ensures)
