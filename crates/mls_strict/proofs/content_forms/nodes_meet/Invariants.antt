use Rattle.std.proofs.Common.{◌≡◌, drop}
use Rattle.std.specs.List.{list_all}
use Rattle.mls_strict.specs.ContentForms.{node_meets}
use Rattle.mls_strict.proofs.content_forms.nodes_meet.Given as goal

abbrev pub invariant-loop-node : goal.invariant-loop-node
invariant-loop-node l = list_all (node_meets l.suite l.rule) (drop l.node-index l.nodes) ≡ list_all (node_meets l.suite l.rule) l.nodes
