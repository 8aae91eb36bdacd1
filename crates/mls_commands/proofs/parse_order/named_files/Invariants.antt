use Rattle.std.proofs.Common.{◌≡◌, map, take}
use Rattle.mls_commands.proofs.parse_order.named_files.Given as goal

abbrev pub invariant-loop-name : goal.invariant-loop-name
invariant-loop-name l = l.files.items ≡ map (λ name. name.now) (take l.name-index l.names)
