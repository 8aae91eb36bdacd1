-- Fingerprints that are stored with a leaf node. Internal: no public contract uses this.
use Rattle.std.specs.Prelude.{◌≡◌, ℕ, List, Option, IfSome}
use Rattle.mls_nodes.specs.Fingerprints.{fingerprint}
use Rattle.mls_nodes.specs.declared.fingerprints.KeyFingerprints.{KeyFingerprints}

-- `AreFingerprints encryption signature stored`: the fingerprints, if there are any, are those of these two keys.
abbrev pub AreFingerprints : List ℕ → List ℕ → Option KeyFingerprints → Type 0
AreFingerprints encryption signature stored =
    IfSome stored (λ both. (both.encryption ≡ fingerprint encryption) × (both.signature ≡ fingerprint signature))
