-- Whether a finding says that all is well. Used by contracts.
use Rattle.std.specs.Prelude.{Bool, true, false}
use Rattle.mls_start.specs.declared.finding.Finding.{Finding}
use Rattle.mls_start.specs.declared.finding.Finding.TheVariants.{TreeValid, Starts}

-- `is_valid finding`: the tree and its leaf nodes are valid, or a follower starts or resumes.
abbrev pub is_valid : Finding → Bool
is_valid (TreeValid _) = true
is_valid (Starts _) = true
is_valid _ = false
