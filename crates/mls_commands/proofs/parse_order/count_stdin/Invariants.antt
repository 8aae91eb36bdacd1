use Rattle.std.proofs.Common.{◌≡◌, ◌≤◌, map, take}
use Rattle.std.specs.Prelude.{count_by}
use Rattle.mls_commands.specs.Orders.{is_stdin_name}
use Rattle.mls_commands.proofs.parse_order.count_stdin.Given as goal

abbrev pub invariant-loop-name : goal.invariant-loop-name
invariant-loop-name l = record {
  count : l.count ≡ count_by is_stdin_name (map (λ name. name.now) (take l.name-index l.names));
  low : l.count ≤ l.name-index;
}
