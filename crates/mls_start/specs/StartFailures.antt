-- Why no follower has started. Used by contracts.
use Rattle.mls_start.specs.declared.finding.Finding.{Finding}
use Rattle.mls_start.specs.declared.start_bytes.StartFailure.{StartFailure}
use Rattle.mls_start.specs.declared.start_bytes.StartFailure.TheVariants.{Found, OutOfMemory}

-- `Says P failure`: no follower has started, for a finding with this property, or because an allocation failed.
abbrev pub Says : (Finding → Type 0) → StartFailure → Type 0
Says P (Found finding) = P finding
Says P OutOfMemory = Unit {0}
