-- The exit statuses of command lines without a command to execute. Used by contracts.
use Rattle.std.specs.Prelude.{ℕ}
use Rattle.mls_commands.specs.declared.order.OrderFault.{OrderFault}
use Rattle.mls_commands.specs.declared.order.OrderFault.TheVariants as order

-- `fault_status fault` is the exit status: 0 for help, 2 for a usage fault, 3 for out of memory.
abbrev pub fault_status : OrderFault → ℕ
fault_status (order.Help text) = 0
fault_status (order.Usage text) = 2
fault_status order.Memory = 3
