use Rattle.std.proofs.Common.{◌∙◌, sym, arith}
use Rattle.mls_examine.proofs.TreeBodies.{by_entries, not_full, too_long}
use Rattle.mls_examine.proofs.current_infos.encodes_tree.Goals as goal

pub returns-then-bytes-gt-MAX_INPUT : goal.returns-then-bytes-gt-MAX_INPUT
returns-then-bytes-gt-MAX_INPUT c = sym (too_long c.args.tree.now.tree c.args.bytes.now (omega (arith, c.if-bytes-gt-MAX_INPUT.true)))

pub returns-then-not-is_least : goal.returns-then-not-is_least
returns-then-not-is_least c = sym (not_full c.args.tree.now.tree c.args.bytes.now (sym c.is_least.ensures ∙ c.if-not-is_least.true))

pub returns : goal.returns
returns c =
    by_entries c.args.tree.now.tree c.args.bytes.now (omega (arith, c.if-bytes-gt-MAX_INPUT.false)) (sym c.is_least.ensures ∙ c.if-not-is_least.false)
    c.are_entries.result (rw c.nodes.ensures at c.are_entries.ensures)
