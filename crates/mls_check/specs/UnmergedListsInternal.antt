-- Strictly increasing unmerged leaves of a parent (RFC 9420, 7.1). Internal: no public contract uses this.
use Rattle.std.specs.Prelude.{Option, Some, None}
use Rattle.std.specs.List.Sorted.{IsStrictlyIncreasing}
use Rattle.mls_nodes.specs.declared.parent.ParentNode.{ParentNode}

-- `HasSortedEntries p`: as `HasSortedList`, of a parent.
abbrev pub HasSortedEntries : Option ParentNode → Type 0
HasSortedEntries None = Unit {0}
HasSortedEntries (Some p) = IsStrictlyIncreasing p.unmerged
