use Rattle.std.proofs.Common.{◌≡◌, ◌==◌, length}
use Rattle.std.specs.List.{list_any}
use Rattle.mls_nodes.proofs.codes.lists_code.Given as goal

abbrev pub invariant-loop-listed : goal.invariant-loop-listed
invariant-loop-listed l = list_any (λ x. x == l.code) l.left ≡ list_any (λ x. x == l.code) l.codes

abbrev pub decreases-loop-listed : goal.decreases-loop-listed
decreases-loop-listed l = length l.left
