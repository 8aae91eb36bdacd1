-- The index of the references of pending proposals (RFC 9420, 5.2), and the fingerprints of their PreSharedKeyIDs.
-- Internal: no public contract uses this.
use Rattle.std.specs.Prelude.{◌≡◌, ℕ, suc, if◌then◌else◌, List, [], ◌∷◌, Vec, Option, Some, None, map, option_map}
use Rattle.std.specs.BTreeMap.{BTreeMap, get_by}
use Rattle.std.specs.Cmp.Lexicographic.{slice_cmp}
use Rattle.std.specs.Ordering.{nat_cmp}
use Rattle.std.specs.Str.{bytes_eq}
use Rattle.mls_apply.specs.declared.list_item.KnownProposal.{KnownProposal}
use Rattle.mls_apply.specs.PskFingerprints.{psk_fingerprint}

-- `position_of ks reference` is the position of the first of the proposals ks with this reference, if there is one
abbrev pub position_of : List KnownProposal → List ℕ → Option ℕ
position_of [] reference = None
position_of (k ∷ ks) reference = if bytes_eq k.reference reference then Some 0 else option_map suc (position_of ks reference)

-- `IsIndexed ks positions` says that the map has the position of the first proposal with each reference, and no other key
abbrev pub IsIndexed : {A : Type 0} → List KnownProposal → BTreeMap (Vec ℕ A) ℕ → Type 0
IsIndexed ks positions = (r : List ℕ) → get_by (λ key. slice_cmp nat_cmp r key.items) positions ≡ position_of ks r

-- `known_fingerprint k` is the fingerprint of a pending proposal.
abbrev pub known_fingerprint : KnownProposal → ℕ
known_fingerprint k = psk_fingerprint k.proposal

-- `AreFingerprints ks prints`: these are the fingerprints of the proposals ks, in their order.
abbrev pub AreFingerprints : List KnownProposal → List ℕ → Type 0
AreFingerprints ks prints = map known_fingerprint ks ≡ prints
