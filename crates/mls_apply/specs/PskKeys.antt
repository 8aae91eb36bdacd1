-- The fields of a PreSharedKeyID by which a set orders them (RFC 9420, 8.4). Internal: no public contract uses this.
use Rattle.std.specs.Prelude.{ℕ, List}
use Rattle.mls_msgs.specs.declared.pre_shared_key.PskKind.{PskKind}
use Rattle.mls_msgs.specs.declared.pre_shared_key.PskKind.TheVariants as kinds
use Rattle.mls_msgs.specs.declared.pre_shared_key.PskUsage.{PskUsage}
use Rattle.mls_msgs.specs.declared.pre_shared_key.PskUsage.TheVariants as usages

-- `usage_number usage` is the number of a usage.
abbrev pub usage_number : PskUsage → ℕ
usage_number usages.Application = 1
usage_number usages.ReInit = 2
usage_number usages.Branch = 3

-- `kind_number kind` is the number of the usage of a resumption PSK, and 0 of an external one.
abbrev pub kind_number : PskKind → ℕ
kind_number (kinds.External _) = 0
kind_number (kinds.Resumption usage _ _) = usage_number usage

-- `kind_bytes kind` is the id of an external PSK, or the group id of a resumption PSK.
abbrev pub kind_bytes : PskKind → List ℕ
kind_bytes (kinds.External id) = id
kind_bytes (kinds.Resumption _ group_id _) = group_id

-- `kind_epoch kind` is the epoch of a resumption PSK, and 0 of an external one.
abbrev pub kind_epoch : PskKind → ℕ
kind_epoch (kinds.External _) = 0
kind_epoch (kinds.Resumption _ _ epoch) = epoch
